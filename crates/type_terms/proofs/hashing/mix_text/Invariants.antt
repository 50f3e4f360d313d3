use Rattle.std.proofs.Common.{◌≡◌, take, fold}
use Rattle.type_terms.specs.Hashing.{mix_doubled}
use Rattle.type_terms.proofs.hashing.mix_text.Given as goal

abbrev pub invariant-loop-byte : goal.invariant-loop-byte
invariant-loop-byte l = l.hash ≡ fold mix_doubled l.fn.hash (take l.byte-index l.text)
