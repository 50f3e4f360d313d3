-- answers for src/laws.rt
use Rattle.laws_image_parts.proofs.tidiness.ContentLemmas.{contents_once}
use Rattle.laws_image_parts.proofs.tidiness_laws.contents_stand_once.Goals as goal

pub returns : goal.returns
returns c =
    contents_once c.tables_are_read.ensures c.heaps_are_read.ensures c.one_content_at_an_index.ensures.text c.one_content_at_an_index.ensures.blob
    c.written_is_read.ensures.blob c.indexes_are_in_use.ensures
