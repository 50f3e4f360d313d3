use Rattle.std.proofs.Common.{drop, map}
use Rattle.image_members.specs.Places.{lent}
use Rattle.image_members.proofs.PlaceLemmas.{FilledTo}
use Rattle.image_members.proofs.carrying.add_carried.Given as goal

abbrev pub invariant-loop-carrier : goal.invariant-loop-carrier
invariant-loop-carrier g l = FilledTo (lent l.initial.all) (lent l.all) (map g.T.Carries.value_of (lent l.carriers)) (map g.T.Carries.value_of (lent (drop l.carrier-index l.carriers)))
