use Rattle.type_hierarchy.specs.World.{hierarchy}
use Rattle.body_verifier.specs.Checking.{setup}
use Rattle.code_flow.specs.Frames.{frame}
use Rattle.body_verifier.proofs.checking.broken_in.Given as goal

abbrev pub ghost-broken_instructions : goal.ghost-broken_instructions
ghost-broken_instructions g a = setup g.sources (frame a.a.now (hierarchy a.w.now) (record { path = a.path.now; parameters = a.parameters; method = a.method.now }) a.body.now)
