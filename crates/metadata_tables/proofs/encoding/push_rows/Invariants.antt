use Rattle.std.proofs.Common.{◌≡◌, ◌++◌, []}
use Rattle.std.specs.Prelude.{slice_index, slice_index_or}
use Rattle.metadata_tables.specs.Bytes.{joined, row_bytes}
use Rattle.metadata_tables.proofs.encoding.push_rows.Given as goal

abbrev pub invariant-loop-k : goal.invariant-loop-k
invariant-loop-k l =
    l.out ≡ l.initial.out ++ joined (λ k. row_bytes (slice_index l.widths) (slice_index_or l.rows k [])) l.k
