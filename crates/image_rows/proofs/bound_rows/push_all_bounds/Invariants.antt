use Rattle.std.proofs.Common.{drop}
use Rattle.image_rows.proofs.BoundLemmas.{BoundsTo}
use Rattle.image_rows.proofs.bound_rows.push_all_bounds.Given as goal

abbrev pub invariant-loop-generic : goal.invariant-loop-generic
invariant-loop-generic l = BoundsTo l.row l.initial.refs l.refs l.initial.rows l.rows l.generics (drop l.generic-index l.generics)
