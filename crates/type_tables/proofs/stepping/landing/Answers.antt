use Rattle.type_hierarchy.specs.Names.{full_name}
use Rattle.type_hierarchy.specs.Tables.{hierarchy_in}
use Rattle.type_tables.proofs.LandingLemmas.{landing_here, undeclared}
use Rattle.type_tables.proofs.stepping.landing.Goals as goal

pub returns-in-Some : goal.returns-in-Some
returns-in-Some c =
    landing_here (hierarchy_in c.args.tables.now) c.args.tables.now.names (full_name c.args.scope c.args.path.now) c.in-Some.place c.requires.listed c.in-Some.ensures.found

pub other_landing-requires-clause-other : goal.other_landing-requires-clause-other
other_landing-requires-clause-other c =
    undeclared (hierarchy_in c.args.tables.now) c.args.tables.now.names (full_name c.args.scope c.args.path.now) c.requires.listed c.in-None.ensures.none
