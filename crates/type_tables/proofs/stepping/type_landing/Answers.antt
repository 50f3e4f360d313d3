use Rattle.std.proofs.Common.{◌∙◌, ap, sym, refl, ℕ, Option}
use Rattle.type_terms.specs.declared.term.SigType.TheVariants as type
use Rattle.type_hierarchy.specs.Hierarchy.{core_name}
use Rattle.type_tables.specs.Landings.{IsLanding, IsTypeLanding}
use Rattle.type_hierarchy.specs.Names.{class_of, full_name}
use Rattle.type_hierarchy.specs.Tables.{hierarchy_in}
use Rattle.type_tables.proofs.LandingLemmas.{known_landing, unnamed_nowhere}
use Rattle.type_hierarchy.proofs.NamedTypes.{class_named, instance_named, prim_named, value_named}
use Rattle.type_tables.proofs.StepLists.{if_ok}
use Rattle.type_tables.proofs.stepping.type_landing.Goals as goal

pub returns-in-Class : goal.returns-in-Class
returns-in-Class c =
    let w = hierarchy_in c.args.tables.now in
    let name = c.in-Class.name in
    known_landing w c.args.tables.now.names c.args.to.now (type.Class name) name (full_name name.scope c.as_slice.result.now) c.landing.result c.in-Class.is
    (class_named w name) (ap (full_name name.scope) c.as_slice.ensures.ids) c.landing.ensures

pub returns-in-Value : goal.returns-in-Value
returns-in-Value c =
    let w = hierarchy_in c.args.tables.now in
    let name = c.in-Value.name in
    known_landing w c.args.tables.now.names c.args.to.now (type.Value name) name (full_name name.scope c.as_slice-in-Value.result.now) c.landing-in-Value.result c.in-Value.is
    (value_named w name) (ap (full_name name.scope) c.as_slice-in-Value.ensures.ids) c.landing-in-Value.ensures

pub returns-in-Inst : goal.returns-in-Inst
returns-in-Inst c =
    let w = hierarchy_in c.args.tables.now in
    let name = c.get-name.result.now in
    known_landing w c.args.tables.now.names c.args.to.now (type.Inst c.in-Inst.value name c.in-Inst.args) name (full_name name.scope c.as_slice-in-Inst.result.now) c.landing-in-Inst.result
    (c.in-Inst.is ∙ ap (λ n. type.Inst c.in-Inst.value n c.in-Inst.args) (sym c.get-name.ensures))
    (instance_named w c.in-Inst.value name c.in-Inst.args) (ap (full_name name.scope) c.as_slice-in-Inst.ensures.ids) c.landing-in-Inst.ensures

pub returns-in-Prim : goal.returns-in-Prim
returns-in-Prim c =
    let w = hierarchy_in c.args.tables.now in
    let names = c.args.tables.now.names in
    let name = core_name w (class_of c.in-Prim.prim) in
    if_ok c.class_place.result (λ (o : Option ℕ). IsLanding w names name o) (λ (o : Option ℕ). IsTypeLanding w names c.args.to.now o)
    (λ o l. known_landing w names c.args.to.now (type.Prim c.in-Prim.prim) name name o c.in-Prim.is (prim_named w c.in-Prim.prim) refl l) c.class_place.ensures

pub returns-in_default : goal.returns-in_default
returns-in_default c =
    unnamed_nowhere (hierarchy_in c.args.tables.now) c.args.tables.now.names c.args.to.now c.in_default.not-Prim c.in_default.not-Class c.in_default.not-Value c.in_default.not-Inst
