use Rattle.listing_declarations.proofs.Manifests.{manifests_are_read}
use Rattle.listing_declarations.proofs.laws.manifests_are_read.Goals as goal

pub returns : goal.returns
returns c =
    manifests_are_read c.searches_pass.ensures c.segments_are_read.ensures c.pieces_are_read.ensures c.runs_are_read.ensures c.runs_are_filtered.ensures
    c.attributes_are_read.ensures c.field_rows_are_read.ensures c.assemblies_are_read.ensures c.headers_are_read.ensures c.declarations_are_read.ensures
