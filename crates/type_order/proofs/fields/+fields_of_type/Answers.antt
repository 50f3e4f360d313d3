use Rattle.std.proofs.Common.{Some, ◌≡◌, ◌∙◌, ap, sym, subst, List}
use Rattle.std.specs.Prelude.{IfOk}
use Rattle.type_terms.specs.declared.name.TypeName.{TypeName}
use Rattle.type_terms.specs.declared.term.SigType.{SigType}
use Rattle.assembly_tree.specs.declared.members.Field.{Field}
use Rattle.type_hierarchy.specs.Ancestors.{name_in}
use Rattle.type_hierarchy.specs.Normal.{meant, normal}
use Rattle.type_hierarchy.specs.Tables.{hierarchy_in}
use Rattle.type_order.specs.Fields.{fields_of}
use Rattle.type_order.specs.Keys.{reading_of}
use Rattle.type_order.proofs.MeantLemmas.{array_unnamed, by_reference_unnamed, class_meant, instance_meant, method_variable_unnamed, modified_meant, pinned_meant, pointer_unnamed, primitive_meant, value_meant, variable_unnamed, vector_unnamed}
use Rattle.type_order.proofs.fields.+fields_of_type.Goals as goal

pub returns-in-Class : goal.returns-in-Class
unfolding hierarchy_in
returns-in-Class t c =
    let w = hierarchy_in c.args.tables.now in
    let a = c.args.a.now in
    c.fields_named.ensures ∙ sym (ap (λ (x : SigType). fields_of a (name_in w (normal (reading_of w) x))) c.in-Class.is ∙ ap (fields_of a) (class_meant w c.in-Class.name))

pub returns-in-Value : goal.returns-in-Value
unfolding hierarchy_in
returns-in-Value t c =
    let w = hierarchy_in c.args.tables.now in
    let a = c.args.a.now in
    c.fields_named-in-Value.ensures ∙ sym (ap (λ (x : SigType). fields_of a (name_in w (normal (reading_of w) x))) c.in-Value.is ∙ ap (fields_of a) (value_meant w c.in-Value.name))

pub returns-in-Inst : goal.returns-in-Inst
unfolding hierarchy_in
returns-in-Inst t c =
    let w = hierarchy_in c.args.tables.now in
    let a = c.args.a.now in
    let by_name = λ (n : TypeName). fields_of a (Some (meant (reading_of w) n)) in
    c.fields_named-in-Inst.ensures ∙ ap by_name c.get.ensures
    ∙ sym (ap (λ (x : SigType). fields_of a (name_in w (normal (reading_of w) x))) c.in-Inst.is ∙ ap (fields_of a) (instance_meant w _ c.in-Inst.name _))

pub returns-in-Prim : goal.returns-in-Prim
unfolding hierarchy_in
returns-in-Prim t c =
    let w = hierarchy_in c.args.tables.now in
    let a = c.args.a.now in
    let P : List Field → Type 0 = λ (l : List Field). IfOk c.fields_of_primitive.result (λ fields. fields.now ≡ l) in
    subst P (sym (ap (λ (x : SigType). fields_of a (name_in w (normal (reading_of w) x))) c.in-Prim.is ∙ ap (fields_of a) (primitive_meant w c.in-Prim.prim))) c.fields_of_primitive.ensures

pub returns-in-Mod : goal.returns-in-Mod
returns-in-Mod t c =
    let w = hierarchy_in c.args.tables.now in
    let a = c.args.a.now in
    let F = λ (x : SigType). fields_of a (name_in w (normal (reading_of w) x)) in
    let P : List Field → Type 0 = λ (l : List Field). IfOk c.fields_of_type.result (λ fields. fields.now ≡ l) in
    subst P (ap F c.get-in-Mod.ensures ∙ sym (ap F c.in-Mod.is ∙ ap (fields_of a) (modified_meant w _ _ c.in-Mod.of))) c.fields_of_type.ensures

pub returns-in-Pinned : goal.returns-in-Pinned
returns-in-Pinned t c =
    let w = hierarchy_in c.args.tables.now in
    let a = c.args.a.now in
    let F = λ (x : SigType). fields_of a (name_in w (normal (reading_of w) x)) in
    let P : List Field → Type 0 = λ (l : List Field). IfOk c.fields_of_type-in-Pinned.result (λ fields. fields.now ≡ l) in
    subst P (ap F c.get-in-Pinned.ensures ∙ sym (ap F c.in-Pinned.is ∙ ap (fields_of a) (pinned_meant w c.in-Pinned.of))) c.fields_of_type-in-Pinned.ensures

pub returns-in-Var : goal.returns-in-Var
returns-in-Var t c =
    let w = hierarchy_in c.args.tables.now in
    let a = c.args.a.now in
    sym (ap (λ (x : SigType). fields_of a (name_in w (normal (reading_of w) x))) c.in-Var.is ∙ ap (fields_of a) (variable_unnamed w _))

pub returns-in-MVar : goal.returns-in-MVar
returns-in-MVar t c =
    let w = hierarchy_in c.args.tables.now in
    let a = c.args.a.now in
    sym (ap (λ (x : SigType). fields_of a (name_in w (normal (reading_of w) x))) c.in-MVar.is ∙ ap (fields_of a) (method_variable_unnamed w _))

pub returns-in-SzArray : goal.returns-in-SzArray
returns-in-SzArray t c =
    let w = hierarchy_in c.args.tables.now in
    let a = c.args.a.now in
    sym (ap (λ (x : SigType). fields_of a (name_in w (normal (reading_of w) x))) c.in-SzArray.is ∙ ap (fields_of a) (vector_unnamed w _))

pub returns-in-Array : goal.returns-in-Array
returns-in-Array t c =
    let w = hierarchy_in c.args.tables.now in
    let a = c.args.a.now in
    sym (ap (λ (x : SigType). fields_of a (name_in w (normal (reading_of w) x))) c.in-Array.is ∙ ap (fields_of a) (array_unnamed w _ _ _ _))

pub returns-in-ByRef : goal.returns-in-ByRef
returns-in-ByRef t c =
    let w = hierarchy_in c.args.tables.now in
    let a = c.args.a.now in
    sym (ap (λ (x : SigType). fields_of a (name_in w (normal (reading_of w) x))) c.in-ByRef.is ∙ ap (fields_of a) (by_reference_unnamed w _))

pub returns-in-Pointer : goal.returns-in-Pointer
returns-in-Pointer t c =
    let w = hierarchy_in c.args.tables.now in
    let a = c.args.a.now in
    sym (ap (λ (x : SigType). fields_of a (name_in w (normal (reading_of w) x))) c.in-Pointer.is ∙ ap (fields_of a) (pointer_unnamed w _))
