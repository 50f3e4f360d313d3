use Rattle.std.proofs.Common.{[], refl}
use Rattle.image_model.specs.Streams.{strings_of, blobs_of}
use Rattle.formed_references.proofs.References.{Laws}
use Rattle.formed_images.proofs.Whole.{formed}
use Rattle.formed_images.proofs.laws.what_is_read_is_formed.Goals as goal

pub returns : goal.returns
returns c image a bytes short h =
    let laws : Laws image = record {
      text = c.one_content_at_an_index.ensures.text (strings_of image);
      blob = c.one_content_at_an_index.ensures.blob (blobs_of image);
      type = λ owners bytes s t k l. (c.no_type_begins_another.ensures owners s t bytes bytes [] [] k.0 l.0 refl).1;
      method = c.bytes_spell_one_signature.ensures.method;
      field = c.bytes_spell_one_signature.ensures.field;
      property = c.bytes_spell_one_signature.ensures.property;
      locals = c.bytes_spell_one_signature.ensures.locals;
      instantiation = c.bytes_spell_one_signature.ensures.instantiation;
    } in
    formed image a h bytes short laws (c.a_tree_holds_its_types.ensures image a h) (c.what_is_in_use_is_formed.ensures image a short h) (λ t n. c.data_has_one_size.ensures image a h t n)
    (λ names part body size all spelled few. let f = c.what_is_read_is_formed.ensures names part body size all spelled few in (f.form, f.short_branches))
