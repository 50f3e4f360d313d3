use Rattle.image_model.specs.Streams.{strings_of}
use Rattle.image_model.proofs.ReadTree.{holds_types}
use Rattle.image_model.proofs.laws.a_tree_holds_its_types.Goals as goal

pub returns : goal.returns
returns c = λ image a h. holds_types image a h (c.one_content_at_an_index.ensures.text (strings_of image))
