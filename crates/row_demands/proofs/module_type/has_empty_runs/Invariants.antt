use Rattle.std.proofs.Common.{◌≡◌, ◌≤◌, ◌<◌, ℕ}
use Rattle.metadata_tables.specs.Stream.{cell}
use Rattle.image_model.specs.Streams.{tables_of}
use Rattle.row_demands.specs.Members.{start_of, end_of}
use Rattle.row_demands.proofs.module_type.has_empty_runs.Given as goal

abbrev pub invariant-loop-row : goal.invariant-loop-row
invariant-loop-row l =
    (row : ℕ) → 0 < row → row ≤ l.row → cell (tables_of l.image) l.map row 0 ≡ 1 → end_of l.image l.map l.members row ≤ start_of l.image l.map l.members row
