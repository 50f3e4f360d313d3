use Rattle.body_verifier.proofs.checking.check_method.Given as goal

abbrev pub ghost-check_body : goal.ghost-check_body
ghost-check_body g a = g.sources
