use Rattle.row_demands.proofs.RunParts.{params_rise, param_lies}
use Rattle.row_demands.proofs.run_checks.param_meets.Goals as goal

pub hold-requires-clause-rise : goal.hold-requires-clause-rise
hold-requires-clause-rise c = params_rise c.args.image.now c.requires.rise

pub returns-then-hold : goal.returns-then-hold
returns-then-hold c =
    let l = param_lies c.args.image.now c.args.row c.requires.there in
    let h = c.hold.ensures in
    let r = c.rises_in_method.ensures in
    (λ yes. l.1 (h.0 c.if-hold.true, r.0 yes), λ runs. r.1 (l.0 runs).1)

pub returns-else-hold : goal.returns-else-hold
returns-else-hold c =
    let l = param_lies c.args.image.now c.args.row c.requires.there in
    (λ yes. let n = c.if-hold.false in cc, λ runs. c.hold.ensures.1 (l.0 runs).0)
