use Rattle.std.proofs.Common.{◌≡◌, ◌∙◌, ap, sym, subst}
use Rattle.type_terms.specs.declared.name.TypeName.{TypeName}
use Rattle.type_terms.specs.declared.term.Primitive.{Primitive}
use Rattle.type_hierarchy.specs.Hierarchy.{core_name}
use Rattle.type_tables.specs.Landings.{IsLanding}
use Rattle.type_hierarchy.specs.Names.{class_of, full_name}
use Rattle.type_hierarchy.specs.Tables.{hierarchy_in}
use Rattle.type_hierarchy.specs.declared.core_types.Above.TheVariants.{Object}
use Rattle.type_tables.proofs.LandingLemmas.{name_at}
use Rattle.type_tables.proofs.stepping.class_place.Goals as goal

pub returns-in-Object : goal.returns-in-Object
returns-in-Object c =
    let w = hierarchy_in c.args.tables.now in
    subst (λ (p : Primitive). IsLanding w c.args.tables.now.names (core_name w (class_of p)) c.args.tops.now.object) (sym c.in-Object.is) (c.requires.tops Object)

pub returns-in_ok-name-in_default : goal.returns-in_ok-name-in_default
returns-in_ok-name-in_default c =
    let t = c.args.tables.now in
    let w = hierarchy_in t in
    let name = c.in_ok-name-in_default.name in
    let is : full_name name.scope c.as_slice.result.now ≡ core_name w (class_of c.args.prim) =
    ap (full_name name.scope) c.as_slice.ensures.ids ∙ c.in_ok-name-in_default.ensures ∙ name_at t (class_of c.args.prim) in
    subst (λ (n : TypeName). IsLanding w t.names n c.landing.result) is c.landing.ensures
