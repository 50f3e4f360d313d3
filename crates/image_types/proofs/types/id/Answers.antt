use Rattle.image_model.specs.Columns.{type_name, type_space}
use Rattle.image_model.specs.Reading.{TextIs}
use Rattle.row_parts.proofs.Zips.{ok_has}
use Rattle.image_types.proofs.types.id.Goals as goal

pub returns : goal.returns
returns c =
    let image = c.args.source.now.image.now in
    let it = c.in_ok-space in
    record {
      space = ok_has (TextIs image (type_space image c.args.row)) c.text_of.result it.space c.in_ok-space.ensures.0 c.text_of.ensures;
      name = ok_has (TextIs image (type_name image c.args.row)) c.text_of-2.result it.name c.in_ok-space.ensures.1 c.text_of-2.ensures;
    }

pub text_of-requires-clause-meets : goal.text_of-requires-clause-meets
text_of-requires-clause-meets c = c.requires.ready.structure

pub text_of-requires-2-clause-meets : goal.text_of-requires-2-clause-meets
text_of-requires-2-clause-meets c = c.requires.ready.structure
