use Rattle.body_verifier.proofs.checking.states_of.Given as goal

abbrev pub ghost-least_typing : goal.ghost-least_typing
ghost-least_typing g a = g.at
