use Rattle.std.proofs.Common.{◌≡◌, take, fold}
use Rattle.image_tokens.specs.NameHashes.{add_digit}
use Rattle.image_tokens.proofs.name_hashes.number_of.Given as goal

abbrev pub invariant-loop-byte : goal.invariant-loop-byte
invariant-loop-byte l = l.number ≡ fold add_digit 1 (take l.byte-index l.text)
