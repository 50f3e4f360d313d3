use Rattle.hash_places.proofs.SlotLemmas.{empty_place, empty_reached, none_used}
use Rattle.hash_places.proofs.places.HashPlaces.with_room.Goals as goal

pub invariant_of-result : goal.invariant_of-result
invariant_of-result c = record { reached = empty_reached _ c.in_ok-slots.ensures.empty; counted = none_used _ c.in_ok-slots.ensures.empty }

pub returns : goal.returns
returns c = empty_place _ c.in_ok-slots.ensures.empty
