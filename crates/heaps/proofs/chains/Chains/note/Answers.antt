use Rattle.std.proofs.Common.{◌≡◌, ℕ, Some, cond, length, sym, ap, rules}
use Rattle.std.specs.Prelude.{nat_eq}
use Rattle.hash_places.specs.Slots.{place_of}
use Rattle.heaps.specs.Hash.{hash_of}
use Rattle.heaps.specs.Finds.{content_of}
use Rattle.heaps.specs.declared.chains.Chains.{Chains}
use Rattle.heaps.specs.declared.chains.Place.{Place}
use Rattle.heaps.proofs.FindsLemmas.{Finds-note}
use Rattle.heaps.proofs.chains.Chains.note.Goals as goal

pub returns-in-Ok-clause-finds : goal.returns-in-Ok-clause-finds
returns-in-Ok-clause-finds c =
    let old = c.args.self.now in
    let new : Chains = record { newest = c.insert.new.self; places = c.push.new.self } in
    let place : Place = record { index = c.args.index; start = c.args.start; len = length c.args.content.now; next = c.get.result } in
    let here : content_of c.args.bytes.now place ≡ c.args.content.now = sym c.requires.here in
    let hash : hash_of c.args.content.now ≡ hash_of (content_of c.args.bytes.now place) = ap hash_of (sym here) in
    let next : place.next ≡ place_of old.newest (hash_of c.args.content.now) = search rules in
    let newest : (q : ℕ) → place_of new.newest q ≡ cond (nat_eq (hash_of c.args.content.now) q) (Some (length old.places)) (place_of old.newest q) = search rules in
    Finds-note old new c.args.bytes.now place c.requires.finds
    (rw here c.requires.lacks) c.requires.within c.requires.room
    (search rules)
    (rw (← hash) next) (rw (← hash) newest)
