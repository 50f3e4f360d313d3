use Rattle.row_demands.proofs.RunParts.{fields_rise, field_lies}
use Rattle.row_demands.proofs.run_checks.field_meets.Goals as goal

pub hold-requires-clause-rise : goal.hold-requires-clause-rise
hold-requires-clause-rise c = fields_rise c.args.image.now c.requires.rise

pub returns : goal.returns
returns c =
    let l = field_lies c.args.image.now c.args.row c.requires.there in
    let h = c.hold.ensures in
    (λ yes. l.1 (h.0 yes), λ runs. h.1 (l.0 runs))
