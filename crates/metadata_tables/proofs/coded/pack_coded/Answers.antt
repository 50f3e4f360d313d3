use Rattle.std.proofs.Common.{sym}
use Rattle.metadata_tables.proofs.Tags.{unpacked-packed}
use Rattle.metadata_tables.proofs.coded.pack_coded.Goals as goal

pub returns-clause-back : goal.returns-clause-back
returns-clause-back c =
    unpacked-packed c.args.kind c.args.table c.args.row c.in_ok-tag.tag c.tag_bits.result c.from.result (sym c.in_ok-tag.ensures) c.tag_bits.ensures.bits c.tag_bits.ensures.few c.requires c.from.ensures
