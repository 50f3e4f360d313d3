use Rattle.type_hierarchy.specs.Scopes.{sources}
use Rattle.run_reports.proofs.checking.checked.Given as goal

abbrev pub ghost-bodies_given : goal.ghost-bodies_given
ghost-bodies_given a = sources a.a.now a.references.now
