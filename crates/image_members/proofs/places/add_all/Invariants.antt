use Rattle.std.proofs.Common.{drop}
use Rattle.image_members.specs.Places.{lent}
use Rattle.image_members.proofs.PlaceLemmas.{FilledTo}
use Rattle.image_members.proofs.places.add_all.Given as goal

abbrev pub invariant-loop-item : goal.invariant-loop-item
invariant-loop-item g l = FilledTo (lent l.initial.all) (lent l.all) l.items (drop l.item-index l.items)
