use Rattle.std.proofs.Common.{drop}
use Rattle.image_members.specs.Places.{lent}
use Rattle.image_rows.proofs.EntryLemmas.{SoughtTo}
use Rattle.image_rows.proofs.entry.entry_of.Given as goal

abbrev pub invariant-loop-method : goal.invariant-loop-method
invariant-loop-method l = SoughtTo l.row (lent l.methods) (lent (drop l.method-index l.methods))
