use Rattle.listing_classes.proofs.Members.{class_members_are_read}
use Rattle.listing_classes.proofs.laws.class_members_are_read.Goals as goal

pub returns : goal.returns
returns c =
    class_members_are_read c.numbers_are_read.ensures c.layouts_are_read.ensures c.segments_are_read.ensures c.pieces_are_read.ensures c.runs_are_read.ensures
    c.runs_are_filtered.ensures c.attributes_are_read.ensures c.typar_lines_are_read.ensures c.generics_are_read.ensures c.field_rows_are_read.ensures
    c.method_rows_are_read.ensures c.property_rows_are_read.ensures
