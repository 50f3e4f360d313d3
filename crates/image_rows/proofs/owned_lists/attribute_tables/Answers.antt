use Rattle.std.proofs.Common.{◌∙◌, ap, List, [], ◌∷◌, ◌++◌, map}
use Rattle.std.specs.Borrow.{Bor}
use Rattle.assembly_tree.specs.declared.members.Event.{Event}
use Rattle.assembly_tree.specs.declared.members.Field.{Field}
use Rattle.assembly_tree.specs.declared.members.Method.{Method}
use Rattle.assembly_tree.specs.declared.members.Param.{Param}
use Rattle.assembly_tree.specs.declared.members.Property.{Property}
use Rattle.assembly_tree.specs.declared.typedef.TypeDef.{TypeDef}
use Rattle.image_rows.specs.AttributeRows.{tables_of}
use Rattle.image_members.specs.Lists.{type_attributes}
use Rattle.image_members.specs.Places.{lent}
use Rattle.image_rows.proofs.OwnedLemmas.{next, table_added, attributes_listed}
use Rattle.image_rows.proofs.owned_lists.attribute_tables.Goals as goal

pub returns : goal.returns
returns c classes h g =
    let t0 = c.new-tables.result in
    let t1 = c.add_attributed.new.tables in
    let t2 = c.add_attributed-2.new.tables in
    let t3 = c.push.new.self in
    let t4 = c.add_attributed-3.new.tables in
    let t5 = c.add_single.new.tables in
    let t6 = c.add_attributed-4.new.tables in
    let t7 = c.add_attributed-5.new.tables in
    let methods = c.in_ok-add_attributed.ensures ∙ ap (λ (xs : List (Bor Method)). tables_of t0 ++ (0x06, map (λ (x : Method). x.attributes) (lent xs)) ∷ []) c.as_slice.ensures in
    let fields = c.in_ok-add_attributed-2.ensures ∙ ap (λ (xs : List (Bor Field)). tables_of t1 ++ (0x04, map (λ (x : Field). x.attributes) (lent xs)) ∷ []) c.as_slice-2.ensures in
    let types =
    table_added t2 t3 0x02 c.in_ok-types.types c.in_ok-push.ensures.ok
    ∙ ap (λ lists. tables_of t2 ++ (0x02, lists) ∷ []) (c.in_ok-types.ensures ∙ ap (λ (xs : List (Bor TypeDef)). c.args.none.now ∷ map type_attributes (lent xs)) c.as_slice-3.ensures) in
    let params = c.in_ok-add_attributed-3.ensures ∙ ap (λ (xs : List (Bor Param)). tables_of t3 ++ (0x08, map (λ (x : Param). x.attributes) (lent xs)) ∷ []) c.as_slice-4.ensures in
    let properties = c.in_ok-add_attributed-4.ensures ∙ ap (λ (xs : List (Bor Property)). tables_of t5 ++ (0x17, map (λ (x : Property). x.attributes) (lent xs)) ∷ []) c.as_slice-5.ensures in
    let events = c.in_ok-add_attributed-5.ensures ∙ ap (λ (xs : List (Bor Event)). tables_of t6 ++ (0x14, map (λ (x : Event). x.attributes) (lent xs)) ∷ []) c.as_slice-6.ensures in
    let start = ap tables_of c.new-tables.ensures in
    attributes_listed c.args.a.now classes c.args.ordered.now h _ _ _ c.requires g
    (next _ (next _ (next _ (next _ (next _ (next _ (next _ (next _ (next _ start methods) fields) types) params) c.in_ok-add_single.ensures) properties) events) c.in_ok-add_single-2.ensures) c.in_ok-add_attributed-6.ensures)
