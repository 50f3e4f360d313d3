use Rattle.std.proofs.Common.{◌≡◌, ◌++◌}
use Rattle.std.specs.Prelude.{slice_index}
use Rattle.metadata_tables.specs.Bytes.{joined, count_bytes}
use Rattle.metadata_tables.proofs.encoding.push_counts.Given as goal

abbrev pub invariant-loop-count : goal.invariant-loop-count
invariant-loop-count l =
    l.out ≡ l.initial.out ++ joined (λ k. count_bytes (slice_index l.counts k)) l.count-index
