use Rattle.std.proofs.Common.{◌≡◌, take, fold}
use Rattle.type_terms.specs.Hashing.{mix}
use Rattle.type_terms.proofs.hashing.mix_sizes.Given as goal

abbrev pub invariant-loop-size : goal.invariant-loop-size
invariant-loop-size l = l.hash ≡ fold mix l.fn.hash (take l.size-index l.sizes)
