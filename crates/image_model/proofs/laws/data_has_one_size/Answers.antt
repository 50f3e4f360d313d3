use Rattle.image_model.specs.Streams.{strings_of}
use Rattle.image_model.proofs.ReadTree.{one_size}
use Rattle.image_model.proofs.laws.data_has_one_size.Goals as goal

pub returns : goal.returns
returns c = λ image a h t n. one_size image a h (c.one_content_at_an_index.ensures.text (strings_of image)) t n
