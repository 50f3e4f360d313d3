use Rattle.std.proofs.Common.{ℕ, ◌*◌, ◌+◌, ◌≤◌, length, sym, ◌∙◌, ap, subst}
use Rattle.std.specs.List.{AllZip}
use Rattle.std.specs.Prelude.{All}
use Rattle.assembly_tree.specs.declared.members.Constant.{Constant}
use Rattle.image_model.specs.Columns.{attribute_parent, constant_parent, field_name}
use Rattle.image_model.specs.Members.{ConstantIs, data_of}
use Rattle.image_model.specs.Reading.{TextIs, IsGiven, IsContent, IsAttribute, without}
use Rattle.image_model.specs.Rows.{rows_with}
use Rattle.image_model.specs.Terms.{FieldHas}
use Rattle.image_source.specs.Names.{names_of}
use Rattle.row_parts.proofs.Indexes.{field_attributes, field_constants}
use Rattle.row_parts.proofs.Zips.{ok_has}
use Rattle.image_fields.proofs.field_rows.field.Goals as goal

pub offset-offset-requires-clause-meets : goal.offset-offset-requires-clause-meets
offset-offset-requires-clause-meets c = c.requires.ready.structure

pub offset-offset-requires-clause-one : goal.offset-offset-requires-clause-one
offset-offset-requires-clause-one c = c.requires.ready.owned.offsets c.args.row c.requires.there

pub constant-requires-clause-one : goal.constant-requires-clause-one
constant-requires-clause-one c =
    let h = c.requires.ready.owned.field_constants c.args.row c.requires.there in
    subst (λ (i : ℕ). length (rows_with c.args.source.now.image.now 0x0B constant_parent i) ≤ 1) (field_constants c.args.row ∙ ap (λ (r : ℕ). r * 4) (sym c.from.ensures)) h.one

pub constant-requires-clause-each : goal.constant-requires-clause-each
constant-requires-clause-each c =
    let h = c.requires.ready.owned.field_constants c.args.row c.requires.there in
    subst (λ (i : ℕ). All (λ k. (x : Constant) × ConstantIs c.args.source.now.image.now k x) (rows_with c.args.source.now.image.now 0x0B constant_parent i)) (field_constants c.args.row ∙ ap (λ (r : ℕ). r * 4) (sym c.from.ensures)) h.each

pub returns : goal.returns
returns c =
    let image = c.args.source.now.image.now in
    let names = names_of c.args.source.now.kept.now in
    let row = c.args.row in
    let it = c.in_ok-name in
    let e = c.in_ok-name.ensures in
    let of = ok_has (FieldHas image names row) c.field_type.result it.of e.1.0 c.field_type.ensures in
    let constants = ap (λ (r : ℕ). r * 4) c.from.ensures ∙ sym (field_constants row) in
    let attributes = ap (λ (r : ℕ). r * 32 + 1) c.from-2.ensures ∙ sym (field_attributes row) in
    record {
      name = ok_has (TextIs image (field_name image row)) c.text_of.result it.name e.0 c.text_of.ensures;
      flags = c.without.ensures ∙ ap (λ (n : ℕ). without n 0x8100) c.number_of-flags.ensures;
      of = of;
      constant = subst (λ (i : ℕ). IsGiven (ConstantIs image) (rows_with image 0x0B constant_parent i) it.constant) constants (ok_has (IsGiven (ConstantIs image) (rows_with image 0x0B constant_parent (c.from.result * 4))) c.constant.result it.constant e.1.1.0 c.constant.ensures);
      offset = c.offset-offset.ensures;
      content = ok_has (IsGiven (IsContent image it.of) (data_of image row)) c.content.result it.content e.1.1.1.0 (c.content.ensures it.of of);
      attributes = subst (λ (i : ℕ). AllZip (IsAttribute image names) (rows_with image 0x0C attribute_parent i) it.attributes) attributes
          (ok_has (AllZip (IsAttribute image names) (rows_with image 0x0C attribute_parent (c.from-2.result * 32 + 1))) c.attributes.result it.attributes e.1.1.1.1 c.attributes.ensures);
    }

pub number_of-flags-requires-clause-bytes : goal.number_of-flags-requires-clause-bytes
number_of-flags-requires-clause-bytes c = c.requires.ready.bytes

pub text_of-requires-clause-meets : goal.text_of-requires-clause-meets
text_of-requires-clause-meets c = c.requires.ready.structure

pub constant-requires-clause-meets : goal.constant-requires-clause-meets
constant-requires-clause-meets c = c.requires.ready.structure
