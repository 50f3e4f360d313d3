use Rattle.body_verifier.proofs.solving.least_typing.Given as goal

abbrev pub ghost-solve : goal.ghost-solve
ghost-solve g a = g.at
