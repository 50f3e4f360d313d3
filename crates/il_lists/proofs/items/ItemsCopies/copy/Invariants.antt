use Rattle.std.proofs.Common.{◌≡◌, take}
use Rattle.il_lists.proofs.items.ItemsCopies.copy.Given as goal

abbrev pub invariant-loop-item : goal.invariant-loop-item
invariant-loop-item g l = l.copies ≡ take l.item-index l.item-items
