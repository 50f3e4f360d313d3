use Rattle.std.proofs.Common.{◌≡◌, take, fold}
use Rattle.type_terms.specs.Hashing.{mix_bound}
use Rattle.type_terms.proofs.hashing.mix_bounds.Given as goal

abbrev pub invariant-loop-bound : goal.invariant-loop-bound
invariant-loop-bound l = l.hash ≡ fold mix_bound l.fn.hash (take l.bound-index l.lower)
