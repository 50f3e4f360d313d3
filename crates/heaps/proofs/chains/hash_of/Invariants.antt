use Rattle.std.proofs.Common.{◌≡◌, take, fold}
use Rattle.heaps.specs.Hash.{mix}
use Rattle.heaps.proofs.chains.hash_of.Given as goal

abbrev pub invariant-loop-byte : goal.invariant-loop-byte
invariant-loop-byte l = l.hash ≡ fold mix 0xCBF29CE484222325 (take l.byte-index l.content)
