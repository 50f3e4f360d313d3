use Rattle.listing_class_heads.proofs.Heads.{class_heads_are_read}
use Rattle.listing_class_heads.proofs.laws.class_heads_are_read.Goals as goal

pub returns : goal.returns
returns c =
    class_heads_are_read c.names_are_read.ensures c.searches_pass.ensures c.flags_are_read.ensures c.options_are_read.ensures c.formed_are_read.ensures
    c.owners_are_read.ensures
