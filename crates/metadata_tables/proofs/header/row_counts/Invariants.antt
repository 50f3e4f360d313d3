use Rattle.std.proofs.Common.{◌≡◌, ◌<◌, ℕ, length}
use Rattle.std.specs.Prelude.{slice_index}
use Rattle.metadata_tables.specs.Stream.{count_place, row_count}
use Rattle.metadata_tables.proofs.header.row_counts.Given as goal

abbrev pub invariant-loop-table : goal.invariant-loop-table
invariant-loop-table l =
    (l.at ≡ count_place l.stream l.table) × (length l.counts ≡ 45)
    × ((u : ℕ) → u < l.table → slice_index l.counts u ≡ row_count l.stream u)
