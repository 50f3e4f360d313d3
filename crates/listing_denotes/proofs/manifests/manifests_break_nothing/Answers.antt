use Rattle.listing_denotes.proofs.ManifestsManifests.{manifests_break_nothing}
use Rattle.listing_denotes.proofs.manifests.manifests_break_nothing.Goals as goal

pub returns : goal.returns
returns c =
    manifests_break_nothing c.unasked_break_nothing.ensures c.numbers_are_read.ensures c.numbers_alone.ensures c.assemblies_break_nothing.ensures
    c.attributes_break_nothing.ensures c.segments_are_read.ensures c.rows_break_nothing.ensures c.headers_break_nothing.ensures c.declarations_are_read.ensures
