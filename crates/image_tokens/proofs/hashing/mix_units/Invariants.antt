use Rattle.std.proofs.Common.{◌≡◌, take, fold}
use Rattle.type_terms.specs.Hashing.{mix_doubled}
use Rattle.image_tokens.proofs.hashing.mix_units.Given as goal

abbrev pub invariant-loop-unit : goal.invariant-loop-unit
invariant-loop-unit l = l.hash ≡ fold mix_doubled l.fn.hash (take l.unit-index l.units)
