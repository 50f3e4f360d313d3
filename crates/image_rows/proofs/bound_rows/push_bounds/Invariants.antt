use Rattle.std.proofs.Common.{drop}
use Rattle.type_terms.specs.declared.term.Owner.{Owner}
use Rattle.image_members.specs.GenericRows.{bounds_with}
use Rattle.image_members.proofs.KindLemmas.{Pushing}
use Rattle.image_rows.proofs.BoundLemmas.{bound_kind}
use Rattle.image_rows.proofs.bound_rows.push_bounds.Given as goal

abbrev pub invariant-loop-bound : goal.invariant-loop-bound
invariant-loop-bound l = Pushing bound_kind l.initial.refs l.refs l.initial.rows l.rows (bounds_with l.row l.bounds) (bounds_with l.row (drop l.bound-index l.bounds))
