-- The facts of TypeSpec rows as they are found: each distinct blob has a place, and each row the place of its blob.
use Rattle.std.specs.Prelude.{◌≡◌, ℕ, Bool, true, false, suc, ◌+◌, ◌-◌, ◌/◌, ◌%◌, ◌^◌, ◌<◌, ◌≤◌, ◌==◌, if◌then◌else◌, List, [], ◌∷◌, length, map, slice_get, Option, Some, None}
use Rattle.std.specs.Option.{option_map}
use Rattle.hash_places.specs.Slots.{place_of}
use Rattle.hash_places.specs.declared.slots.Slot.{Slot}
use Rattle.heaps.specs.LookUp.{blob_in}
use Rattle.image_model.specs.Columns.{type_spec_signature}
use Rattle.image_model.specs.Rows.{count_of, HasRow}
use Rattle.image_model.specs.Streams.{blobs_of}
use Rattle.sig_codec.specs.Reading.{◌>>=◌}
use Rattle.signature_facts.specs.declared.facts.Facts.{Facts}
use Rattle.signature_facts.specs.declared.facts.OwnerFacts.{OwnerFacts}
use Rattle.signature_facts.specs.Scanning.{OwnersFacts, whole_type}
use Rattle.spec_facts.specs.SpecMap.{joined, merged, spec_of}

-- the facts of the type that the blob at an index spells
unfoldable pub scanned_at : List ℕ → OwnersFacts → ℕ → Option Facts
scanned_at image owners index = do
  b ← blob_in (blobs_of image) index
  whole_type owners b

-- what was found so far of a row
unfoldable pub found : List ℕ → List (Option Facts) → ℕ → Option Facts
found places facts row = if row == 0 then None else do
  place ← slice_get places (row - 1)
  joined (slice_get facts place)

-- what was found of each row
unfoldable pub all_found : List ℕ → List (Option Facts) → List (Option Facts)
all_found places facts = map (λ place. joined (slice_get facts place)) places

-- each row has the place of its blob among the distinct ones
pub record ArePlaces (image places heads : List ℕ) : Type 0 where
  pub each : length places ≡ count_of image 0x1B
  pub placed : (row : ℕ) → row < length places → (place : ℕ) × (slice_get places row ≡ Some place) × (slice_get heads place ≡ Some (type_spec_signature image (row + 1)))

-- how many aren't found
abbrev pub unknown : List (Option Facts) → ℕ
unknown [] = 0
unknown (None ∷ facts) = suc (unknown facts)
unknown (Some f ∷ facts) = unknown facts

-- A map tells of a TypeSpec row what its blob spells by this very map, and of other tokens what `names` tells. Nothing that it tells is
-- deeper than what a signature may spell.
pub record TellsSpecs (image : List ℕ) (names true_map : OwnersFacts) : Type 0 where
  pub named : (token : ℕ) → (token / 2 ^ 24 ≡ 0x1B → ⊥) → true_map token ≡ names token
  pub there : (token : ℕ) → token / 2 ^ 24 ≡ 0x1B → HasRow image 0x1B (token % 2 ^ 24)
      → true_map token ≡ option_map spec_of (scanned_at image true_map (type_spec_signature image (token % 2 ^ 24)))
  pub absent : (token : ℕ) → token / 2 ^ 24 ≡ 0x1B → (HasRow image 0x1B (token % 2 ^ 24) → ⊥) → true_map token ≡ None
  pub deep : (token : ℕ) (o : OwnerFacts) → true_map token ≡ Some o → o.facts.depth ≤ 100

-- what was found is so
abbrev pub IsSound : List ℕ → OwnersFacts → List ℕ → List (Option Facts) → Type 0
IsSound image true_map heads facts = (place index : ℕ) (f : Facts) → slice_get heads place ≡ Some index → slice_get facts place ≡ Some (Some f) → scanned_at image true_map index ≡ Some f

-- nothing is found at a place by what was found
abbrev pub IsDone : List ℕ → OwnersFacts → List ℕ → List ℕ → List (Option Facts) → ℕ → Type 0
IsDone image names places heads facts place = (index : ℕ) → slice_get heads place ≡ Some index → slice_get facts place ≡ Some None
    → scanned_at image (merged names (found places facts)) index ≡ None

-- nor at the first places
abbrev pub IsFixed : List ℕ → OwnersFacts → List ℕ → List ℕ → List (Option Facts) → ℕ → Type 0
IsFixed image names places heads facts count = (place : ℕ) → place < count → IsDone image names places heads facts place

-- What holds once the first places were looked at: what was found is so, and where nothing was found nothing is to be found there.
pub record RoundSo (image : List ℕ) (names : OwnersFacts) (places heads : List ℕ) (old now : List (Option Facts)) (has_found : Bool) (place : ℕ) : Type 0 where
  pub each : length now ≡ length heads
  pub sound : (true_map : OwnersFacts) → TellsSpecs image names true_map → IsSound image true_map heads old → IsSound image true_map heads now
  pub fewer : has_found ≡ true → unknown now < unknown old
  pub same : has_found ≡ false → (now ≡ old) × IsFixed image names places heads old place

-- the blobs that were met have places by their indexes
pub record ArePlaced (slots : List Slot) (heads : List ℕ) : Type 0 where
  pub placed : (index place : ℕ) → place_of slots index ≡ Some place → slice_get heads place ≡ Some index
