-- answers for src/laws.rt
use Rattle.image_model.specs.Streams.{strings_of}
use Rattle.laws_image_parts.proofs.names.PathsRead.{paths_read}
use Rattle.laws_image_parts.proofs.names_laws.paths_are_read.Goals as goal

pub returns : goal.returns
returns c = paths_read c.rows_are_read.ensures c.enclosers_are_read.ensures c.runs_are_read.ensures c.parts_are_read.ensures (λ image. c.one_content_at_an_index.ensures.text (strings_of image))
