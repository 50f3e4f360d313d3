use Rattle.std.proofs.Common.{◌≡◌, take, fold}
use Rattle.type_terms.specs.Hashing.{mix_type}
use Rattle.type_terms.proofs.hashing.+hashing.Given as goal

abbrev pub invariant-mix_types-loop-t : goal.invariant-mix_types-loop-t
invariant-mix_types-loop-t l = l.hash ≡ fold mix_type l.fn.hash (take l.t-index l.types)
