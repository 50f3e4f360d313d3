use Rattle.image_layout.proofs.ReferenceLemmas.{Front}
use Rattle.image_layout.proofs.reference_rows.push_set.Given as goal

abbrev pub invariant-loop-k : goal.invariant-loop-k
invariant-loop-k l = Front l.table l.columns l.set l.k l.initial.rows l.rows
