use Rattle.std.proofs.Common.{sym, ◌∙◌}
use Rattle.metadata_tables.proofs.Tags.{packed-unpacked}
use Rattle.metadata_tables.proofs.coded.unpack_coded.Goals as goal

pub returns-clause-back : goal.returns-clause-back
returns-clause-back c =
    packed-unpacked c.args.kind c.args.value c.in_ok-table.table c.tag_bits-bits.result (sym c.table_of.ensures ∙ c.in_ok-table.was) c.tag_bits-bits.ensures.bits c.tag_bits-bits.ensures.few
