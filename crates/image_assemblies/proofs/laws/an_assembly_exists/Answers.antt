use Rattle.image_assemblies.proofs.Whole.{Given, assembly_exists}
use Rattle.image_assemblies.proofs.laws.an_assembly_exists.Goals as goal

pub returns : goal.returns
returns c =
    let given : Given = record {
      text = c.one_content_at_an_index.ensures.text;
      blob = c.one_content_at_an_index.ensures.blob;
      reads = c.read_is_spelled.ensures.type_of;
      field = λ names bytes s t h k. c.bytes_spell_one_signature.ensures.field names.owners bytes s t h k;
      bodies = c.outlines_are_bodies.ensures;
      total = c.orders_are_total.ensures.owners;
    } in
    assembly_exists given
