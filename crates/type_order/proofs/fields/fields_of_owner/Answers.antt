use Rattle.std.proofs.Common.{◌≡◌, ◌∙◌, ap, sym, subst, List}
use Rattle.std.specs.Prelude.{IfOk}
use Rattle.type_terms.specs.declared.term.Owner.{Owner}
use Rattle.assembly_tree.specs.declared.members.Field.{Field}
use Rattle.type_hierarchy.specs.Ancestors.{name_in}
use Rattle.type_hierarchy.specs.Normal.{normal_owner}
use Rattle.type_hierarchy.specs.Tables.{hierarchy_in}
use Rattle.type_order.specs.Fields.{fields_of}
use Rattle.type_order.specs.Keys.{reading_of}
use Rattle.type_order.proofs.MeantLemmas.{name_meant, type_meant}
use Rattle.type_order.proofs.fields.fields_of_owner.Goals as goal

pub returns-in-Name : goal.returns-in-Name
unfolding hierarchy_in
returns-in-Name c =
    let w = hierarchy_in c.args.tables.now in
    let a = c.args.a.now in
    c.fields_named.ensures ∙ sym (ap (λ (x : Owner). fields_of a (name_in w (normal_owner (reading_of w) x))) c.in-Name.is ∙ ap (fields_of a) (name_meant w c.in-Name.name))

pub returns-in-Spec : goal.returns-in-Spec
returns-in-Spec c =
    let w = hierarchy_in c.args.tables.now in
    let a = c.args.a.now in
    let P : List Field → Type 0 = λ (l : List Field). IfOk c.fields_of_type.result (λ fields. fields.now ≡ l) in
    subst P (sym (ap (λ (x : Owner). fields_of a (name_in w (normal_owner (reading_of w) x))) c.in-Spec.is ∙ ap (fields_of a) (type_meant w c.in-Spec.of))) c.fields_of_type.ensures
