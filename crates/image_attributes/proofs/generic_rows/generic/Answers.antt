use Rattle.std.proofs.Common.{ℕ, ◌+◌, ◌*◌, sym, ◌∙◌, ap, subst}
use Rattle.std.specs.List.{AllZip}
use Rattle.image_model.specs.Columns.{attribute_parent, bound_type, bound_parameter, generic_name}
use Rattle.image_model.specs.Reading.{TextIs, OwnerIs, IsAttribute}
use Rattle.image_model.specs.Rows.{rows_with}
use Rattle.image_source.specs.Names.{names_of}
use Rattle.row_parts.proofs.Indexes.{generic_attributes}
use Rattle.row_parts.proofs.Zips.{ok_has}
use Rattle.image_attributes.proofs.generic_rows.generic.Goals as goal

pub returns : goal.returns
returns c =
    let image = c.args.source.now.image.now in
    let names = names_of c.args.source.now.kept.now in
    let row = c.args.row in
    let it = c.in_ok-name in
    let index = ap (λ (r : ℕ). r * 32 + 19) c.from.ensures ∙ sym (generic_attributes row) in
    record {
      name = ok_has (TextIs image (generic_name image row)) c.text_of.result it.name c.in_ok-name.ensures.0 c.text_of.ensures;
      flags = c.number_of-flags.ensures;
      bounds = ok_has (AllZip (λ k. OwnerIs image names (bound_type image k)) (rows_with image 0x2C bound_parameter row)) c.bounds.result it.bounds c.in_ok-name.ensures.1.0 c.bounds.ensures;
      attributes = subst (λ (i : ℕ). AllZip (IsAttribute image names) (rows_with image 0x0C attribute_parent i) it.attributes) index
          (ok_has (AllZip (IsAttribute image names) (rows_with image 0x0C attribute_parent (c.from.result * 32 + 19))) c.attributes.result it.attributes c.in_ok-name.ensures.1.1 c.attributes.ensures);
    }

pub number_of-flags-requires-clause-bytes : goal.number_of-flags-requires-clause-bytes
number_of-flags-requires-clause-bytes c = c.requires.ready.bytes

pub text_of-requires-clause-meets : goal.text_of-requires-clause-meets
text_of-requires-clause-meets c = c.requires.ready.structure
