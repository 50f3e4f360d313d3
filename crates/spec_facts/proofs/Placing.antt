-- What holds while the blobs of rows get their places.
use Rattle.std.proofs.Common.{◌≡◌, ℕ, ◌+◌, ◌^◌, ◌≤◌, ◌<◌, Bool, true, false, cond, nat_eq, List, [], ◌∷◌, ◌++◌, length, Option, Some, None, refl, sym, ap, subst, ◌∙◌, arith, below_more, length-append}
use Rattle.std.proofs.lemmas.Grind.{common_steps}
use Rattle.std.proofs.lemmas.Option.{slice_get_within}
use Rattle.std.specs.Prelude.{slice_get}
use Rattle.hash_places.specs.Slots.{place_of}
use Rattle.hash_places.specs.declared.slots.Slot.{Slot}
use Rattle.image_model.specs.Columns.{type_spec_signature}
use Rattle.sig_codec.proofs.Numbers.{some_is}
use Rattle.spec_facts.specs.Rounds.{ArePlaced}
use Rattle.spec_facts.proofs.Lists.{stays_behind, last_there}

-- a row has its place
abbrev pub HasPlace : List ℕ → List ℕ → List ℕ → ℕ → Type 0
HasPlace image places heads row = (place : ℕ) × (slice_get places row ≡ Some place) × (slice_get heads place ≡ Some (type_spec_signature image (row + 1)))

pub record PlacedSo (image : List ℕ) (slots : List Slot) (places heads : List ℕ) (row : ℕ) : Type 0 where
  pub placed : ArePlaced slots heads
  pub each : length places ≡ row
  pub few : length heads ≤ row
  pub rows : (r : ℕ) → r < row → HasPlace image places heads r

pub one_placed : (old new : List Slot) (heads : List ℕ) (index : ℕ) → ArePlaced old heads
    → ((q : ℕ) → place_of new q ≡ cond (nat_eq index q) (Some (length heads)) (place_of old q)) → ArePlaced new (heads ++ index ∷ [])
one_placed old new heads index are is = record { placed = λ other place e. go other place (nat_eq index other) refl (sym (is other) ∙ e) }
  where
    go : (other place : ℕ) (t : Bool) → nat_eq index other ≡ t → cond t (Some (length heads)) (place_of old other) ≡ Some place → slice_get (heads ++ index ∷ []) place ≡ Some other
    go other place true t e =
        let same : index ≡ other = grind (arith, common_steps) in
        let at = some_is (length heads) place e in
        ap (slice_get (heads ++ index ∷ [])) (sym at) ∙ last_there heads index ∙ ap (λ (n : ℕ). Some n) same
    go other place false t e = stays_behind heads (index ∷ []) place other (are.placed other place e)

-- one row more
pub placed_more : (image : List ℕ) (old new : List Slot) (places heads more : List ℕ) (row place : ℕ) → PlacedSo image old places heads row → ArePlaced new more
    → ((p h : ℕ) → slice_get heads p ≡ Some h → slice_get more p ≡ Some h) → length more ≤ length heads + 1 → slice_get more place ≡ Some (type_spec_signature image (row + 1))
    → PlacedSo image new (places ++ place ∷ []) more (row + 1)
placed_more image old new places heads more row place so are stays few there = record {
  placed = are;
  each = (let e = so.each in omega (arith, length-append places (place ∷ [])));
  few = (let f = so.few in omega arith);
  rows = below_more (HasPlace image (places ++ place ∷ []) more) row
      (λ r lt. let h = so.rows r lt in (h.0, stays_behind places (place ∷ []) r h.0 h.1, stays h.0 (type_spec_signature image (r + 1)) h.2))
      (place, subst (λ (n : ℕ). slice_get (places ++ place ∷ []) n ≡ Some place) so.each (last_there places place), there);
}

pub small_place : (slots : List Slot) (heads : List ℕ) (index hash place : ℕ) → ArePlaced slots heads → hash ≡ index → Some place ≡ place_of slots hash → length heads < 2 ^ 32 → place < 2 ^ 32
small_place slots heads index hash place are same is few =
    let head = are.placed hash place (sym is) in
    let within = slice_get_within heads place hash head in
    omega arith
