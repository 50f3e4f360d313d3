use Rattle.listing_heads.proofs.Heads.{heads_are_read}
use Rattle.listing_heads.proofs.laws.heads_are_read.Goals as goal

pub returns : goal.returns
returns c =
    heads_are_read c.method_names_are_read.ensures c.searches_pass.ensures c.flags_are_read.ensures c.options_are_read.ensures c.conventions_are_read.ensures
    c.formed_are_read.ensures c.generics_are_read.ensures c.segments_are_read.ensures c.pieces_are_read.ensures c.walks_pass.ensures
