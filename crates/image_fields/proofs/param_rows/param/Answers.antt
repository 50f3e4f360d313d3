use Rattle.std.proofs.Common.{◌≡◌, ℕ, ◌*◌, ◌+◌, ◌≤◌, [], length, sym, ◌∙◌, ap, subst}
use Rattle.std.specs.List.{AllZip}
use Rattle.std.specs.Prelude.{All}
use Rattle.assembly_tree.specs.declared.members.Constant.{Constant}
use Rattle.image_model.specs.Columns.{attribute_parent, constant_parent, param_name}
use Rattle.image_model.specs.Members.{ConstantIs}
use Rattle.image_model.specs.Reading.{TextIs, IsGiven, IsAttribute, without}
use Rattle.image_model.specs.Rows.{rows_with}
use Rattle.image_source.specs.Names.{names_of}
use Rattle.row_parts.proofs.Indexes.{param_attributes, param_constants}
use Rattle.row_parts.proofs.Zips.{ok_has}
use Rattle.image_fields.proofs.param_rows.param.Goals as goal

pub constant-requires-clause-one : goal.constant-requires-clause-one
constant-requires-clause-one c =
    let h = c.requires.ready.owned.param_constants c.args.row c.requires.there in
    subst (λ (i : ℕ). length (rows_with c.args.source.now.image.now 0x0B constant_parent i) ≤ 1) (param_constants c.args.row ∙ ap (λ (r : ℕ). r * 4 + 1) (sym c.from.ensures)) h.one

pub constant-requires-clause-each : goal.constant-requires-clause-each
constant-requires-clause-each c =
    let h = c.requires.ready.owned.param_constants c.args.row c.requires.there in
    subst (λ (i : ℕ). All (λ k. (x : Constant) × ConstantIs c.args.source.now.image.now k x) (rows_with c.args.source.now.image.now 0x0B constant_parent i)) (param_constants c.args.row ∙ ap (λ (r : ℕ). r * 4 + 1) (sym c.from.ensures)) h.each

pub returns : goal.returns
returns c =
    let image = c.args.source.now.image.now in
    let names = names_of c.args.source.now.kept.now in
    let row = c.args.row in
    let it = c.in_ok-name in
    let e = c.in_ok-name.ensures in
    let constants = ap (λ (r : ℕ). r * 4 + 1) c.from.ensures ∙ sym (param_constants row) in
    let attributes = ap (λ (r : ℕ). r * 32 + 4) c.from-2.ensures ∙ sym (param_attributes row) in
    record {
      number = c.number_of-number.ensures;
      flags = c.without.ensures ∙ ap (λ (n : ℕ). without n 0x1000) c.number_of-flags.ensures;
      result_name = λ z. ok_has (λ name. name ≡ []) c.param_name.result it.name e.0 (c.param_name.ensures.result_name z);
      name = λ n. ok_has (TextIs image (param_name image row)) c.param_name.result it.name e.0 (c.param_name.ensures.name n);
      constant = subst (λ (i : ℕ). IsGiven (ConstantIs image) (rows_with image 0x0B constant_parent i) it.constant) constants (ok_has (IsGiven (ConstantIs image) (rows_with image 0x0B constant_parent (c.from.result * 4 + 1))) c.constant.result it.constant e.1.0 c.constant.ensures);
      attributes = subst (λ (i : ℕ). AllZip (IsAttribute image names) (rows_with image 0x0C attribute_parent i) it.attributes) attributes
          (ok_has (AllZip (IsAttribute image names) (rows_with image 0x0C attribute_parent (c.from-2.result * 32 + 4))) c.attributes.result it.attributes e.1.1 c.attributes.ensures);
    }

pub number_of-flags-requires-clause-bytes : goal.number_of-flags-requires-clause-bytes
number_of-flags-requires-clause-bytes c = c.requires.ready.bytes

pub number_of-number-requires-clause-bytes : goal.number_of-number-requires-clause-bytes
number_of-number-requires-clause-bytes c = c.requires.ready.bytes

pub param_name-requires-clause-meets : goal.param_name-requires-clause-meets
param_name-requires-clause-meets c = c.requires.ready.structure

pub constant-requires-clause-meets : goal.constant-requires-clause-meets
constant-requires-clause-meets c = c.requires.ready.structure
