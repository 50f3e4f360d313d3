use Rattle.std.proofs.Common.{ℕ, ◌*◌, ◌+◌, sym, ◌∙◌, ap, subst}
use Rattle.std.specs.List.{AllZip}
use Rattle.image_model.specs.Columns.{attribute_parent, generic_owner, method_name, method_rva, override_declaration}
use Rattle.image_model.specs.Reading.{TextIs, IsGeneric, IsParam, IsAttribute, MethodIs, BodyIs, overrides_of}
use Rattle.image_model.specs.Rows.{params_of, rows_with}
use Rattle.image_model.specs.Terms.{MethodHas}
use Rattle.image_source.specs.Names.{names_of}
use Rattle.row_parts.proofs.Indexes.{method_attributes, method_generics}
use Rattle.row_parts.proofs.Zips.{ok_has}
use Rattle.image_methods.proofs.method_rows.method.Goals as goal

pub returns : goal.returns
returns c =
    let image = c.args.source.now.image.now in
    let names = names_of c.args.source.now.kept.now in
    let row = c.args.row in
    let it = c.in_ok-name in
    let e = c.in_ok-name.ensures in
    let generics = ap (λ (r : ℕ). r * 2 + 1) c.from.ensures ∙ sym (method_generics row) in
    let attributes = ap (λ (r : ℕ). r * 32) c.from-2.ensures ∙ sym (method_attributes row) in
    record {
      name = ok_has (TextIs image (method_name image row)) c.text_of.result it.name e.0 c.text_of.ensures;
      flags = c.number_of-flags.ensures;
      impl_flags = c.number_of-impl_flags.ensures;
      sig = ok_has (MethodHas image names row) c.method_signature.result it.sig e.1.0 c.method_signature.ensures;
      generics = subst (λ (i : ℕ). AllZip (IsGeneric image names) (rows_with image 0x2A generic_owner i) it.generics) generics
          (ok_has (AllZip (IsGeneric image names) (rows_with image 0x2A generic_owner (c.from.result * 2 + 1))) c.generics.result it.generics e.1.1.0 c.generics.ensures);
      params = ok_has (AllZip (IsParam image names) (params_of image row)) c.method_params.result it.params e.1.1.1.0 c.method_params.ensures;
      overrides = ok_has (AllZip (λ k. MethodIs names (override_declaration image k)) (overrides_of image row)) c.overrides.result it.overrides e.1.1.1.1.0 c.overrides.ensures;
      entry = c.is_entry-entry.ensures;
      body = ok_has (BodyIs image names (method_rva image row)) c.body.result it.body e.1.1.1.1.1.0 c.body.ensures;
      attributes = subst (λ (i : ℕ). AllZip (IsAttribute image names) (rows_with image 0x0C attribute_parent i) it.attributes) attributes
          (ok_has (AllZip (IsAttribute image names) (rows_with image 0x0C attribute_parent (c.from-2.result * 32))) c.attributes.result it.attributes e.1.1.1.1.1.1 c.attributes.ensures);
    }

pub number_of-impl_flags-requires-clause-bytes : goal.number_of-impl_flags-requires-clause-bytes
number_of-impl_flags-requires-clause-bytes c = c.requires.ready.bytes

pub number_of-flags-requires-clause-bytes : goal.number_of-flags-requires-clause-bytes
number_of-flags-requires-clause-bytes c = c.requires.ready.bytes

pub text_of-requires-clause-meets : goal.text_of-requires-clause-meets
text_of-requires-clause-meets c = c.requires.ready.structure
