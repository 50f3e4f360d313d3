use Rattle.body_verifier.proofs.checking.check_body.Given as goal

abbrev pub ghost-broken_in : goal.ghost-broken_in
ghost-broken_in g a = g.sources
