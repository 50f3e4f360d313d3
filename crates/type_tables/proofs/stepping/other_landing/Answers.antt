use Rattle.std.proofs.Common.{sym, subst, ℕ, Option}
use Rattle.type_hierarchy.specs.Above.{path_of}
use Rattle.type_hierarchy.specs.Hierarchy.{core_name}
use Rattle.type_tables.specs.Landings.{IsLanding, top_of}
use Rattle.type_hierarchy.specs.Names.{full_name}
use Rattle.type_hierarchy.specs.Tables.{hierarchy_in}
use Rattle.type_tables.proofs.LandingLemmas.{chained_none, chained_some, landing_along, landing_none}
use Rattle.type_tables.proofs.stepping.other_landing.Goals as goal

pub returns-in-Some : goal.returns-in-Some
returns-in-Some c =
    let t = c.args.tables.now in
    let w = hierarchy_in t in
    let name = full_name c.args.scope c.args.path.now in
    let above = c.in-Some.above in
    subst (λ (o : Option ℕ). IsLanding w t.names name o) (sym c.of.ensures)
    (landing_along w t.names name (core_name w (path_of above)) (top_of c.args.tops.now above) c.requires.other (chained_some t name above c.in-Some.ensures) (c.requires.tops above))

pub returns-in-None : goal.returns-in-None
returns-in-None c =
    let t = c.args.tables.now in
    let name = full_name c.args.scope c.args.path.now in
    landing_none (hierarchy_in t) t.names name c.requires.other (chained_none t name c.in-None.ensures)
