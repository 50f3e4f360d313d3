use Rattle.cases_verifier.proofs.checks.show_method.Given as goal

abbrev pub ghost-check_method : goal.ghost-check_method
ghost-check_method g a = g.of
