use Rattle.listing_manifests.proofs.Assemblies.{assemblies_are_read}
use Rattle.listing_manifests.proofs.laws.assemblies_are_read.Goals as goal

pub returns : goal.returns
returns c =
    assemblies_are_read c.names_are_read.ensures c.numbers_are_read.ensures c.bytes_are_read.ensures c.strings_are_read.ensures c.attributes_are_read.ensures
    c.flags_are_read.ensures c.searches_pass.ensures c.options_are_read.ensures c.segments_are_read.ensures c.pieces_are_read.ensures
