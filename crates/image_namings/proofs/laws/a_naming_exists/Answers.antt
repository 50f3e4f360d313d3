use Rattle.image_namings.proofs.Naming.{Given, naming_exists}
use Rattle.image_namings.proofs.laws.a_naming_exists.Goals as goal

pub returns : goal.returns
returns c =
    let given : Given = record {
      text = c.one_content_at_an_index.ensures.text;
      blob = c.one_content_at_an_index.ensures.blob;
      units = c.one_content_at_an_index.ensures.units;
      computed = c.blob_is_computed.ensures;
      reads = record {
        type = c.read_is_spelled.ensures.type_of;
        method = c.read_is_spelled.ensures.method;
        field = c.read_is_spelled.ensures.field;
        locals = c.read_is_spelled.ensures.locals;
        instantiation = c.read_is_spelled.ensures.instantiation;
      };
    } in
    naming_exists given
