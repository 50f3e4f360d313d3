use Rattle.std.proofs.Common.{ℕ, ◌*◌, ◌+◌, ◌≤◌, length, sym, ◌∙◌, ap, subst}
use Rattle.std.specs.List.{AllZip}
use Rattle.std.specs.Prelude.{All, Contains}
use Rattle.assembly_tree.specs.declared.members.Constant.{Constant}
use Rattle.image_model.specs.Columns.{attribute_parent, constant_parent, property_name, semantics_association, semantics_method}
use Rattle.image_model.specs.Members.{ConstantIs}
use Rattle.image_model.specs.Reading.{TextIs, IsGiven, IsAccessor, IsAttribute, without}
use Rattle.image_model.specs.Rows.{methods_of, rows_with}
use Rattle.image_model.specs.Terms.{PropertyHas}
use Rattle.image_source.specs.Names.{names_of}
use Rattle.row_parts.proofs.Indexes.{property_accessors, property_attributes, property_constants}
use Rattle.row_parts.proofs.Zips.{ok_has}
use Rattle.image_properties.proofs.property_rows.property.Goals as goal

pub constant-requires-clause-one : goal.constant-requires-clause-one
constant-requires-clause-one c =
    let h = c.requires.ready.owned.property_constants c.args.row c.requires.there in
    subst (λ (i : ℕ). length (rows_with c.args.source.now.image.now 0x0B constant_parent i) ≤ 1) (property_constants c.args.row ∙ ap (λ (r : ℕ). r * 4 + 2) (sym c.from.ensures)) h.one

pub constant-requires-clause-each : goal.constant-requires-clause-each
constant-requires-clause-each c =
    let h = c.requires.ready.owned.property_constants c.args.row c.requires.there in
    subst (λ (i : ℕ). All (λ k. (x : Constant) × ConstantIs c.args.source.now.image.now k x) (rows_with c.args.source.now.image.now 0x0B constant_parent i)) (property_constants c.args.row ∙ ap (λ (r : ℕ). r * 4 + 2) (sym c.from.ensures)) h.each

pub accessors-requires-clause-own : goal.accessors-requires-clause-own
accessors-requires-clause-own c =
    let image = c.args.source.now.image.now in
    subst (λ (i : ℕ). All (λ k. Contains (methods_of image c.args.type_row) (semantics_method image k)) (rows_with image 0x18 semantics_association i)) (property_accessors c.args.row ∙ ap (λ (r : ℕ). r * 2 + 1) (sym c.from-2.ensures))
    (c.requires.ready.owned.property_accessors c.args.type_row c.args.row c.requires.type_there c.requires.owned)

pub returns : goal.returns
returns c =
    let image = c.args.source.now.image.now in
    let names = names_of c.args.source.now.kept.now in
    let row = c.args.row in
    let it = c.in_ok-name in
    let e = c.in_ok-name.ensures in
    let constants = ap (λ (r : ℕ). r * 4 + 2) c.from.ensures ∙ sym (property_constants row) in
    let accessors = ap (λ (r : ℕ). r * 2 + 1) c.from-2.ensures ∙ sym (property_accessors row) in
    let attributes = ap (λ (r : ℕ). r * 32 + 9) c.from-3.ensures ∙ sym (property_attributes row) in
    record {
      name = ok_has (TextIs image (property_name image row)) c.text_of.result it.name e.0 c.text_of.ensures;
      flags = c.without.ensures ∙ ap (λ (n : ℕ). without n 0x1000) c.number_of-flags.ensures;
      sig = ok_has (PropertyHas image names row) c.property_signature.result it.sig e.1.0 c.property_signature.ensures;
      constant = subst (λ (i : ℕ). IsGiven (ConstantIs image) (rows_with image 0x0B constant_parent i) it.constant) constants (ok_has (IsGiven (ConstantIs image) (rows_with image 0x0B constant_parent (c.from.result * 4 + 2))) c.constant.result it.constant e.1.1.0 c.constant.ensures);
      accessors = subst (λ (i : ℕ). AllZip (IsAccessor image c.args.type_row) (rows_with image 0x18 semantics_association i) it.accessors) accessors
          (ok_has (AllZip (IsAccessor image c.args.type_row) (rows_with image 0x18 semantics_association (c.from-2.result * 2 + 1))) c.accessors.result it.accessors e.1.1.1.0 c.accessors.ensures);
      attributes = subst (λ (i : ℕ). AllZip (IsAttribute image names) (rows_with image 0x0C attribute_parent i) it.attributes) attributes
          (ok_has (AllZip (IsAttribute image names) (rows_with image 0x0C attribute_parent (c.from-3.result * 32 + 9))) c.attributes.result it.attributes e.1.1.1.1 c.attributes.ensures);
    }

pub number_of-flags-requires-clause-bytes : goal.number_of-flags-requires-clause-bytes
number_of-flags-requires-clause-bytes c = c.requires.ready.bytes

pub text_of-requires-clause-meets : goal.text_of-requires-clause-meets
text_of-requires-clause-meets c = c.requires.ready.structure

pub constant-requires-clause-meets : goal.constant-requires-clause-meets
constant-requires-clause-meets c = c.requires.ready.structure

pub accessors-requires-clause-bytes : goal.accessors-requires-clause-bytes
accessors-requires-clause-bytes c = c.requires.ready.bytes

pub accessors-requires-clause-meets : goal.accessors-requires-clause-meets
accessors-requires-clause-meets c = c.requires.ready.structure
