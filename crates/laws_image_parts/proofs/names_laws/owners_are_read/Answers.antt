-- answers for src/laws.rt
use Rattle.image_model.specs.Streams.{strings_of}
use Rattle.laws_image_parts.proofs.names.OwnersRead.{owners_are_read}
use Rattle.laws_image_parts.proofs.names_laws.owners_are_read.Goals as goal

pub returns : goal.returns
returns c =
    owners_are_read c.rows_are_read.ensures c.paths_are_read.ensures (λ image. c.one_content_at_an_index.ensures.text (strings_of image))
    c.one_content_at_an_index.ensures.blob c.no_type_begins_another.ensures
