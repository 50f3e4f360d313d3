use Rattle.listing_groups.proofs.Fields.{field_rows_are_read}
use Rattle.listing_groups.proofs.laws.field_rows_are_read.Goals as goal

pub returns : goal.returns
returns c = field_rows_are_read c.segments_are_read.ensures c.attributes_are_read.ensures c.fields_are_read.ensures c.runs_are_filtered.ensures
