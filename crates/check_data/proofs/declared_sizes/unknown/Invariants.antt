use Rattle.check_data.specs.DeclaredSizes.{AreUnknown}
use Rattle.check_data.proofs.declared_sizes.unknown.Given as goal

abbrev pub invariant-loop : goal.invariant-loop
invariant-loop l = AreUnknown l.counter l.sizes
