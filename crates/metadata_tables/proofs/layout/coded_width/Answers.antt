use Rattle.std.proofs.Common.{true, false}
use Rattle.std.specs.Prelude.{slice_index}
use Rattle.metadata_tables.proofs.Layouts.{coded_width_is}
use Rattle.metadata_tables.proofs.layout.coded_width.Goals as goal

pub returns-then-all_below : goal.returns-then-all_below
returns-then-all_below c =
    coded_width_is (slice_index c.args.counts.now) _ _ _ _ true c.if-all_below.ensures c.tags.ensures c.tag_bits-limit.ensures.bits c.tag_bits-limit.ensures.few

pub returns-else-all_below : goal.returns-else-all_below
returns-else-all_below c =
    coded_width_is (slice_index c.args.counts.now) _ _ _ _ false c.if-all_below.ensures c.tags.ensures c.tag_bits-limit.ensures.bits c.tag_bits-limit.ensures.few
