use Rattle.std.proofs.Common.{◌≡◌, ◌++◌}
use Rattle.std.specs.Prelude.{slice_index}
use Rattle.metadata_tables.specs.Bytes.{joined, number_bytes}
use Rattle.metadata_tables.proofs.encoding.push_row.Given as goal

abbrev pub invariant-loop-k : goal.invariant-loop-k
invariant-loop-k l =
    l.out ≡ l.initial.out ++ joined (λ k. number_bytes (slice_index l.widths k) (slice_index l.cells k)) l.k
