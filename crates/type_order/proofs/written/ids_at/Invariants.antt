use Rattle.std.proofs.Common.{◌≡◌, take}
use Rattle.type_order.proofs.written.ids_at.Given as goal

abbrev pub invariant-loop-key : goal.invariant-loop-key
invariant-loop-key l = l.ids ≡ take l.key-index l.keys
