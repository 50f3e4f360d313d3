use Rattle.std.proofs.Common.{List, drop}
use Rattle.image_rows.specs.SemanticsRows.{accessors_in, accessors_at}
use Rattle.image_rows.specs.declared.semantics_rows.Accessing.{Accessing}
use Rattle.image_rows.proofs.AccessorLemmas.{Adding}
use Rattle.image_rows.proofs.semantics_rows.push_accessors_at.Given as goal

abbrev pub invariant-loop-table : goal.invariant-loop-table
invariant-loop-table l = Adding l.initial.rows l.rows ((λ (ts : List Accessing). accessors_at ts l.place) l.tables) ((λ (ts : List Accessing). accessors_at ts l.place) (drop l.table-index l.tables))
