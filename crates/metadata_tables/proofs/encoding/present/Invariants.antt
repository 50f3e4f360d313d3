use Rattle.std.proofs.Common.{◌≡◌, ◌<◌, ◌^◌}
use Rattle.std.specs.Prelude.{slice_index}
use Rattle.metadata_tables.specs.Bytes.{mask_upto}
use Rattle.metadata_tables.proofs.encoding.present.Given as goal

abbrev pub invariant-loop-table : goal.invariant-loop-table
invariant-loop-table l =
    (l.present ≡ mask_upto (slice_index l.counts) l.table) × (l.present < 2 ^ l.table)
