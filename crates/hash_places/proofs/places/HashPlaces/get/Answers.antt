use Rattle.std.proofs.Common.{sym, ◌∙◌, ap}
use Rattle.hash_places.specs.Slots.{AreReached, place_of}
use Rattle.hash_places.proofs.SlotLemmas.{none_place, stop_place, stop_read}
use Rattle.hash_places.proofs.places.HashPlaces.get.Goals as goal

pub returns-in-Some : goal.returns-in-Some
returns-in-Some c =
    let slots = c.as_slice-slots.result.now in
    let ok : AreReached slots = rw c.as_slice-slots.ensures.value c.self.invariant.reached in
    c.place_in.ensures
    ∙ stop_place slots ok c.args.hash c.in-Some.k c.in-Some.ensures _ (stop_read slots c.args.hash c.in-Some.k _ c.in-Some.ensures)
    ∙ ap (λ ss. place_of ss c.args.hash) (c.as_slice-slots.ensures.value ∙ c.self.view_is)

pub returns-in-None : goal.returns-in-None
returns-in-None c =
    sym (none_place c.as_slice-slots.result.now c.args.hash c.in-None.ensures)
    ∙ ap (λ ss. place_of ss c.args.hash) (c.as_slice-slots.ensures.value ∙ c.self.view_is)
