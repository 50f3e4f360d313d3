use Rattle.std.proofs.Common.{◌≡◌, ◌≤◌, ◌<◌, ℕ}
use Rattle.metadata_tables.specs.Stream.{cell}
use Rattle.image_model.specs.Streams.{tables_of}
use Rattle.row_demands.proofs.module_type.has_none.Given as goal

abbrev pub invariant-loop-row : goal.invariant-loop-row
invariant-loop-row l = (row : ℕ) → 0 < row → row ≤ l.row → cell (tables_of l.image) l.table row l.column ≡ l.value → ⊥
