use Rattle.body_verifier.proofs.checking.broken_instructions.Given as goal

abbrev pub ghost-states_of : goal.ghost-states_of
ghost-states_of g a = g.at
