-- How a heap finds a content that it has: its entries with one hash form a chain, newest first.
use Rattle.std.specs.Prelude.{◌≡◌, ℕ, ◌<◌, ◌≤◌, List, Option, Some, length, slice_get}

module _ {X : Type 0} (hash : X → ℕ) where
  -- entry number m has a content with the hash h
  abbrev pub HasHash : List X → ℕ → ℕ → Type 0
  HasHash contents m h = (c : X) × (slice_get contents m ≡ Some c) × (hash c ≡ h)

  -- `newest` leads from a hash to the newest entry with it, and `nexts` from an entry to the newest older
  -- one with the same hash; no content stands twice
  pub record IsChained (newest : ℕ → Option ℕ) (contents : List X) (nexts : List (Option ℕ)) : Type 0 where
    pub paired : length nexts ≡ length contents
    pub reached : (k : ℕ) (c : X) → slice_get contents k ≡ Some c → (m : ℕ) × (newest (hash c) ≡ Some m) × (k ≤ m)
    pub begun : (h m : ℕ) → newest h ≡ Some m → HasHash contents m h
    pub linked : (m j : ℕ) (c : X) → slice_get contents m ≡ Some c → slice_get nexts m ≡ Some (Some j) → (j < m) × HasHash contents j (hash c)
    pub complete : (m k : ℕ) (c d : X) (next : Option ℕ) → slice_get contents m ≡ Some c → slice_get nexts m ≡ Some next
        → slice_get contents k ≡ Some d → k < m → hash d ≡ hash c → (j : ℕ) × (next ≡ Some j) × (k ≤ j)
    pub distinct : (j k : ℕ) (c : X) → slice_get contents j ≡ Some c → slice_get contents k ≡ Some c → j ≡ k
