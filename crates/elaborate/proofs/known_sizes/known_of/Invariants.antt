use Rattle.std.proofs.Common.{◌≡◌, map, take}
use Rattle.elaborate.specs.KnownSizes.{known_size}
use Rattle.elaborate.proofs.known_sizes.known_of.Given as goal

abbrev pub invariant-loop-size : goal.invariant-loop-size
invariant-loop-size l = l.sizes ≡ map known_size (take l.size-index l.asked)
