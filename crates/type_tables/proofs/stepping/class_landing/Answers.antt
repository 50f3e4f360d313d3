use Rattle.std.proofs.Common.{◌≡◌, ◌∙◌, ap, sym, subst, Some}
use Rattle.type_terms.specs.declared.name.TypeName.{TypeName}
use Rattle.type_hierarchy.specs.Hierarchy.{core_name}
use Rattle.type_tables.specs.Landings.{IsLanding}
use Rattle.type_hierarchy.specs.Names.{full_name, system}
use Rattle.type_hierarchy.specs.Tables.{hierarchy_in}
use Rattle.type_tables.proofs.LandingLemmas.{landing_here, name_at, undeclared}
use Rattle.type_tables.proofs.stepping.class_landing.Goals as goal

pub returns-in-Some : goal.returns-in-Some
returns-in-Some c =
    let t = c.args.tables.now in
    let w = hierarchy_in t in
    let name = c.in_ok-name.name in
    let is : full_name name.scope c.as_slice.result.now ≡ core_name w (system c.args.name.now) =
    ap (full_name name.scope) c.as_slice.ensures.ids ∙ c.in_ok-name.ensures ∙ name_at t (system c.args.name.now) in
    subst (λ (n : TypeName). IsLanding w t.names n (Some c.in-Some.place)) is
    (landing_here w t.names (full_name name.scope c.as_slice.result.now) c.in-Some.place c.requires.listed c.in-Some.ensures.found)

pub returns : goal.returns
returns c =
    let t = c.args.tables.now in
    let w = hierarchy_in t in
    let name = c.in_ok-name.name in
    let is : full_name name.scope c.as_slice.result.now ≡ core_name w (system c.args.name.now) =
    ap (full_name name.scope) c.as_slice.ensures.ids ∙ c.in_ok-name.ensures ∙ name_at t (system c.args.name.now) in
    c.requires.beyond (undeclared w t.names (core_name w (system c.args.name.now)) c.requires.listed
    (λ k h. c.in-None.ensures.none k (h ∙ ap Some (sym is))))
