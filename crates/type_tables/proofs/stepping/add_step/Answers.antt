use Rattle.std.proofs.Common.{◌≡◌, ◌++◌, ◌∷◌, [], ℕ, Option, subst}
use Rattle.type_tables.specs.Landings.{AddsPlaces, IsTypeLanding}
use Rattle.type_hierarchy.specs.Tables.{hierarchy_in}
use Rattle.type_tables.proofs.StepLists.{on_ok, places_nowhere, places_one}
use Rattle.type_tables.proofs.stepping.add_step.Goals as goal

pub returns-in-Some : goal.returns-in-Some
returns-in-Some c =
    let w = hierarchy_in c.args.tables.now in
    let names = c.args.tables.now.names in
    let t = c.args.to.now in
    on_ok c.push.result (c.push.new.self ≡ c.args.nexts.now ++ c.in-Some.place ∷ []) (AddsPlaces w names (t ∷ []) c.args.nexts.now c.push.new.self)
    (places_one w names t c.in-Some.place c.args.nexts.now c.push.new.self c.requires.listed.once
    (subst (λ (o : Option ℕ). IsTypeLanding w names t o) c.in-Some.is c.in_ok-place.ensures)) c.push.ensures.ok

pub returns-in-None : goal.returns-in-None
returns-in-None c =
    let w = hierarchy_in c.args.tables.now in
    let names = c.args.tables.now.names in
    let t = c.args.to.now in
    places_nowhere w names t c.args.nexts.now (subst (λ (o : Option ℕ). IsTypeLanding w names t o) c.in-None.is c.in_ok-place.ensures)
