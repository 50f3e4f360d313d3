use Rattle.run_reports.proofs.checking.bodies_given.Given as goal

abbrev pub ghost-check_all : goal.ghost-check_all
ghost-check_all g a = g.s
