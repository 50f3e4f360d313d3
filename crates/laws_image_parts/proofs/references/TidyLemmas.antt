-- What is in bounds is read, and so references are tidy.
use Rattle.image_tokens.specs.declared.references.References.{References}
use Rattle.laws_image_parts.specs.namings.Readable.{IsReadable}
use Rattle.laws_image_parts.specs.references.InBounds.{AreInBounds, SignaturesAreInBounds}
use Rattle.laws_image_parts.specs.references.Tidy.{ReferencesAreTidy}

are_readable : (r : References) → AreInBounds r → IsReadable r
are_readable r h = record {
  specs = λ k cells t at s. let b = h.specs k cells t at s in (b.low, b.small);
  locals = λ k cells ts at s. let b = h.locals k cells ts at s in (b.low, b.small);
  members = record {
    fields = λ k cells t at s. let b = h.fields k cells t at s in (b.low, b.small);
    methods = λ k cells t at s. let b = h.methods k cells t at s in (b.low, b.small);
    member_fields = λ k cells t at s. let b = h.member_fields k cells t at s in (b.low, b.small);
    member_methods = λ k cells t at s. let b = h.member_methods k cells t at s in (b.low, b.small);
    arguments = λ k cells ts at s. let b = h.arguments k cells ts at s in (b.low, b.small);
  };
  texts = h.texts;
}

pub references_tidy : SignaturesAreInBounds → ReferencesAreTidy
references_tidy bounds a classes r tables code entry id kind image f l formed light contents rows = record {
  contents = contents;
  rows = rows;
  two_cells = λ k cells at. (f.known.rows.instances k cells at).third_is;
  readable = are_readable r (bounds a classes r tables code entry id kind image f l formed light);
}
