-- What a heap keeps true of its bytes and its places.
use Rattle.std.specs.Prelude.{◌≡◌, ◌≢◌, ℕ, List, [], Some, map, slice_get}
use Rattle.heaps.specs.Finds.{Finds, content_of}
use Rattle.heaps.specs.declared.chains.Chains.{Chains}
use Rattle.heaps.specs.declared.chains.Place.{Place}

-- the indexes of the entries, in the order of their coming
abbrev pub indexes : List Place → List ℕ
indexes places = map (λ p. p.index) places

-- the chains find the contents, and each entry has its content at its index; `Has` says what stands at an index
pub record IsFilled (Has : List ℕ → ℕ → List ℕ → Type 0) (bytes : List ℕ) (chains : Chains) : Type 0 where
  pub finds : Finds chains bytes
  pub holds : (k : ℕ) (p : Place) → slice_get chains.places k ≡ Some p → Has bytes p.index (content_of bytes p)

-- no entry but that of index 0 is empty
abbrev pub IsProper : List ℕ → Chains → Type 0
IsProper bytes chains = (k : ℕ) (p : Place) → slice_get chains.places k ≡ Some p → content_of bytes p ≢ []
