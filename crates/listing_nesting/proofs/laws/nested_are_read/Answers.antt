use Rattle.listing_nesting.proofs.Types.{nested_are_read}
use Rattle.listing_nesting.proofs.laws.nested_are_read.Goals as goal

pub returns : goal.returns
returns c =
    nested_are_read c.type_rows_are_read.ensures c.types_are_formed.ensures c.segments_are_read.ensures c.pieces_are_read.ensures c.walks_pass.ensures
    c.class_heads_are_read.ensures c.class_bodies_are_read.ensures c.class_members_are_read.ensures
