use Rattle.type_hierarchy.specs.Scopes.{sources}
use Rattle.cases_verifier.proofs.answers.show_whole.Given as goal

abbrev pub ghost-show_counts : goal.ghost-show_counts
ghost-show_counts a = sources a.linked.now.image a.linked.now.references
