use Rattle.row_demands.proofs.RunParts.{events_rise}
use Rattle.row_demands.proofs.run_checks.event_meets.Goals as goal

pub hold-requires-clause-rise : goal.hold-requires-clause-rise
hold-requires-clause-rise c = events_rise c.args.image.now c.requires.rise
