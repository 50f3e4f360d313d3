use Rattle.image_model.specs.Streams.{blobs_of}
use Rattle.image_ready.proofs.Readying.{is_ready}
use Rattle.image_ready.proofs.laws.an_image_is_ready.Goals as goal

pub returns : goal.returns
returns c = λ image names kept sizes meets.
    is_ready image names kept sizes meets (c.one_content_at_an_index.ensures.blob (blobs_of image)) (λ n bytes a b. c.bytes_spell_one_signature.ensures.field n.owners bytes a b) c.outlines_are_bodies.ensures c.signatures_hang_on_tokens.ensures c.bodies_hang_on_tokens.ensures
