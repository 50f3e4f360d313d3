use Rattle.std.proofs.Common.{◌≡◌, drop}
use Rattle.il_lexer.specs.WordKeys.{key_from}
use Rattle.il_lexer.proofs.keys.key_of.Given as goal

-- the bytes that are left take the key so far to the whole one
abbrev pub invariant-loop-byte : goal.invariant-loop-byte
invariant-loop-byte l = key_from l.key (drop l.byte-index l.text) ≡ key_from 0 l.text
