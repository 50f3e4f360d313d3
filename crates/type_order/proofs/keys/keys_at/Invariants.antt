use Rattle.std.proofs.Common.{◌≡◌, take}
use Rattle.type_order.proofs.keys.keys_at.Given as goal

abbrev pub invariant-loop-id : goal.invariant-loop-id
invariant-loop-id l = l.keys ≡ take l.id-index l.ids
