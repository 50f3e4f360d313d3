use Rattle.row_demands.proofs.RunParts.{methods_rise, method_lies}
use Rattle.row_demands.proofs.run_checks.method_meets.Goals as goal

pub hold-requires-clause-rise : goal.hold-requires-clause-rise
hold-requires-clause-rise c = methods_rise c.args.image.now c.requires.rise

pub returns-then-rises : goal.returns-then-rises
returns-then-rises c =
    let l = method_lies c.args.image.now c.args.row c.requires.there in
    let h = c.hold.ensures in
    (λ yes. l.1 (c.rises.ensures.0 c.if-rises.true, h.0 yes), λ runs. h.1 (l.0 runs).1)
