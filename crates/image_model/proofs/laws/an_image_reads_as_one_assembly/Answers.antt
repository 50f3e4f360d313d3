use Rattle.image_model.proofs.OneReading.{Given, one_reading, faultless}
use Rattle.image_model.proofs.laws.an_image_reads_as_one_assembly.Goals as goal

pub returns : goal.returns
returns c =
    let given : Given = record {
      text = c.one_content_at_an_index.ensures.text;
      blob = c.one_content_at_an_index.ensures.blob;
      begins = c.no_type_begins_another.ensures;
      method = c.bytes_spell_one_signature.ensures.method;
      field = c.bytes_spell_one_signature.ensures.field;
      property = c.bytes_spell_one_signature.ensures.property;
      body = c.bytes_spell_one_body.ensures;
      total = c.orders_are_total.ensures.owners;
      tables = c.one_fault.ensures;
    } in
    record { one = one_reading given; faultless = faultless given }
