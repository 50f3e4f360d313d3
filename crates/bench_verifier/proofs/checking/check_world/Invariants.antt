use Rattle.bench_verifier.proofs.checking.check_world.Given as goal

abbrev pub ghost-check_all : goal.ghost-check_all
ghost-check_all g a = g.sources
