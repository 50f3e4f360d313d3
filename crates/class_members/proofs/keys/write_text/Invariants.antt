use Rattle.std.proofs.Common.{◌≡◌, ◌++◌, take}
use Rattle.class_members.proofs.keys.write_text.Given as goal

abbrev pub invariant-loop-byte : goal.invariant-loop-byte
invariant-loop-byte l = l.fact ≡ l.initial.fact ++ take l.byte-index l.text
