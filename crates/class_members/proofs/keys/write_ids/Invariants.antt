use Rattle.std.proofs.Common.{◌≡◌, ◌++◌, take}
use Rattle.class_members.proofs.keys.write_ids.Given as goal

abbrev pub invariant-loop-key : goal.invariant-loop-key
invariant-loop-key l = l.fact ≡ l.initial.fact ++ take l.key-index l.keys
