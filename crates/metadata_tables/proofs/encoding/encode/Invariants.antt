use Rattle.std.proofs.Common.{◌≡◌, ◌++◌}
use Rattle.std.specs.Prelude.{slice_index}
use Rattle.metadata_tables.specs.Bytes.{header_bytes, body_bytes}
use Rattle.metadata_tables.proofs.encoding.encode.Given as goal

abbrev pub invariant-loop-table : goal.invariant-loop-table
invariant-loop-table l =
    l.out ≡ header_bytes (slice_index l.counts) l.wide ++ body_bytes (slice_index l.counts) l.wide l.rows l.table
