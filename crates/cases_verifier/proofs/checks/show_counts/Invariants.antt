use Rattle.cases_verifier.proofs.checks.show_counts.Given as goal

abbrev pub ghost-check_all : goal.ghost-check_all
ghost-check_all g a = g.sources
