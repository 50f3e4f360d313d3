use Rattle.std.proofs.Common.{◌≡◌, ◌<◌, ℕ, [], length}
use Rattle.std.specs.Prelude.{slice_index, slice_index_or}
use Rattle.metadata_tables.proofs.rows.Rows.counts.Given as goal

abbrev pub invariant-loop-table : goal.invariant-loop-table
invariant-loop-table l =
    (length l.counts ≡ 45) × ((u : ℕ) → u < l.table → slice_index l.counts u ≡ length (slice_index_or l.rows-items u []))
