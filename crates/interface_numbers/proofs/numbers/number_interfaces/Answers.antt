use Rattle.image_model.specs.Streams.{strings_of, blobs_of}
use Rattle.interface_numbers.proofs.Knowing.{known_are}
use Rattle.interface_numbers.proofs.numbers.number_interfaces.Goals as goal

pub numbered-requires : goal.numbered-requires
numbered-requires g c =
    known_are c.args.image.now (g.O.Owners.facts c.args.facts.now) (g.N.Numbering.canon c.args.numbers.now) c.requires c.read_is_spelled.ensures.type_of
    (c.one_content_at_an_index.ensures.text (strings_of c.args.image.now)) (c.one_content_at_an_index.ensures.blob (blobs_of c.args.image.now))
