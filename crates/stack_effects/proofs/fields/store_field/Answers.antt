use Rattle.std.proofs.Common.{Option, IfOk, subst}
use Rattle.type_terms.specs.declared.reference.FieldRef.{FieldRef}
use Rattle.type_hierarchy.specs.World.{hierarchy}
use Rattle.code_flow.specs.declared.operation.Operation.TheVariants as does
use Rattle.stack_rows.specs.RowMeanings.{type_option, MeansRow}
use Rattle.stack_effects.specs.MemberMeanings.{field_row_by}
use Rattle.code_flow.specs.Rows.{object_demand}
use Rattle.stack_rows.proofs.Growing.{means_kept}
use Rattle.stack_rows.proofs.RowParts.{to_means, object_same}
use Rattle.stack_effects.proofs.fields.store_field.Goals as goal

pub returns-in_ok-object-in-Some-clause-ok : goal.returns-in_ok-object-in-Some-clause-ok
returns-in_ok-object-in-Some-clause-ok c =
    let w = c.args.w.now in
    let ms = c.object_demand.new.w.nodes in
    let f = c.in_ok-field-in-Some.ensures.ok in
    let x = c.in_ok-object-in-Some.ensures.stays.nodes in
    let P : Option FieldRef → Type 0 = λ (o : Option FieldRef). IfOk c.plain.result (λ r. MeansRow ms r (field_row_by (hierarchy w) (type_option w.nodes c.args.constrained) does.StoreField o)) in
    subst P c.in-Some.ensures
    (c.plain.ensures ms _ _
    (object_same object_demand w c.field_parts.new.w ms _ c.args.constrained _ _ c.in_ok-field-in-Some.ensures.stays c.requires f.owner c.in_ok-object-in-Some.ensures.ok, (to_means _ _ _ (means_kept _ _ _ _ x f.type.value), tt))
    tt)
