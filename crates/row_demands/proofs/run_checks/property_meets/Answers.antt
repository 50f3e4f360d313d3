use Rattle.row_demands.proofs.RunParts.{properties_rise}
use Rattle.row_demands.proofs.run_checks.property_meets.Goals as goal

pub hold-requires-clause-rise : goal.hold-requires-clause-rise
hold-requires-clause-rise c = properties_rise c.args.image.now c.requires.rise
