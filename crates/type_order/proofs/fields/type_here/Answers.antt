use Rattle.std.proofs.Common.{◌∙◌, ap, sym, List, Some}
use Rattle.std.specs.Prelude.{slice_get}
use Rattle.type_terms.specs.declared.name.Scope.TheVariants.{Here}
use Rattle.type_terms.specs.declared.name.TypeId.{TypeId}
use Rattle.assembly_tree.specs.declared.typedef.TypeDef.{TypeDef}
use Rattle.assembly_tree.specs.DataSize.{named}
use Rattle.type_hierarchy.specs.Names.{full_name}
use Rattle.type_order.proofs.FieldLemmas.{none_here}
use Rattle.type_order.proofs.fields.type_here.Goals as goal

pub returns-in-None : goal.returns-in-None
returns-in-None c = λ a outer id know is e.
    none_here a c.args.tables.now outer id know (λ k h. c.in-None.ensures.none k (h ∙ ap (λ (p : List TypeId). Some (full_name Here p)) (sym e)))
    ∙ ap (named id) (sym is)

pub returns-in-Some : goal.returns-in-Some
returns-in-Some c = λ a outer id know is e.
    let place = c.in-Some.place in
    let index = c.at.result.now in
    let name = c.in-Some.ensures.found ∙ ap (λ (p : List TypeId). Some (full_name Here p)) e in
    c.type_by_place.ensures ∙ ap (λ (ts : List TypeDef). slice_get ts index) is
    ∙ know.stands place index outer id name c.at.ensures ∙ ap (named id) (sym is)
