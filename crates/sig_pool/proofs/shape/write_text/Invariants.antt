use Rattle.std.proofs.Common.{◌≡◌, ◌++◌, take}
use Rattle.sig_pool.proofs.shape.write_text.Given as goal

abbrev pub invariant-loop-byte : goal.invariant-loop-byte
invariant-loop-byte l = l.key ≡ l.initial.key ++ take l.byte-index l.text
