use Rattle.std.proofs.Common.{[]}
use Rattle.type_hierarchy.specs.Scopes.{sources}
use Rattle.bench_verifier.proofs.checking.check_assembly.Given as goal

-- the image has no references
abbrev pub ghost-check_world : goal.ghost-check_world
ghost-check_world a = sources a.image.now []
