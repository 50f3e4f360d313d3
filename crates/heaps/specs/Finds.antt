-- What a heap's chains find among its bytes.
use Rattle.std.specs.Prelude.{◌≡◌, ℕ, ◌+◌, ◌≤◌, List, [], ◌∷◌, ◌++◌, Some, length, take, drop, map, slice_get}
use Rattle.hash_places.specs.Slots.{place_of}
use Rattle.heaps.specs.Chains.{IsChained}
use Rattle.heaps.specs.Hash.{hash_of}
use Rattle.heaps.specs.declared.chains.Chains.{Chains}
use Rattle.heaps.specs.declared.chains.Place.{Place}

-- the bytes of the content at a place
abbrev pub content_of : List ℕ → Place → List ℕ
content_of bytes p = take p.len (drop p.start bytes)

-- every place lies in the bytes, each content has one place, and the chains lead to it
pub record Finds (chains : Chains) (bytes : List ℕ) : Type 0 where
  pub within : (k : ℕ) (p : Place) → slice_get chains.places k ≡ Some p → p.start + p.len ≤ length bytes
  pub fewer : length chains.places ≤ length bytes
  pub chained : IsChained hash_of (place_of chains.newest) (map (content_of bytes) chains.places) (map (λ p. p.next) chains.places)

-- the content has a place, whose entry has this index
abbrev pub IsPlaceOf : Chains → List ℕ → List ℕ → ℕ → Type 0
IsPlaceOf chains bytes content index =
    (k : ℕ) × (p : Place) × (slice_get chains.places k ≡ Some p) × (content_of bytes p ≡ content) × (p.index ≡ index)

-- the content has no place
abbrev pub Lacks : Chains → List ℕ → List ℕ → Type 0
Lacks chains bytes content = (k : ℕ) → slice_get (map (content_of bytes) chains.places) k ≡ Some content → ⊥

-- the new chains have one place more, for this content
abbrev pub AddsPlace : Chains → Chains → List ℕ → ℕ → List ℕ → Type 0
AddsPlace old new bytes index content =
    (p : Place) × (new.places ≡ old.places ++ p ∷ []) × (p.index ≡ index) × (content_of bytes p ≡ content)
