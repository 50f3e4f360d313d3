use Rattle.listing_methods.proofs.Whole.{methods_are_read}
use Rattle.listing_methods.proofs.laws.methods_are_read.Goals as goal

pub returns : goal.returns
returns c =
    methods_are_read c.names_are_read.ensures c.numbers_are_read.ensures c.flags_are_read.ensures c.constants_are_read.ensures c.attributes_are_read.ensures
    c.formed_are_read.ensures c.heads_are_read.ensures c.typar_lines_are_read.ensures c.generics_are_read.ensures c.lines_lack.ensures c.bodies_are_read.ensures
    c.searches_pass.ensures c.runs_are_read.ensures c.runs_are_filtered.ensures c.options_are_read.ensures c.segments_are_read.ensures c.pieces_are_read.ensures
    c.walks_pass.ensures
