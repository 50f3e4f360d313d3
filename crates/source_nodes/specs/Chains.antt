-- How an item is found by its hash: the items with one hash form a chain, newest first.
use Rattle.std.specs.Prelude.{◌≡◌, ℕ, ◌<◌, ◌≤◌, List, Option, Some, length, slice_get}

module _ {X : Type 0} (hash : X → ℕ) where
  -- item number m has the hash h
  abbrev pub HasHash : List X → ℕ → ℕ → Type 0
  HasHash items m h = (x : X) × (slice_get items m ≡ Some x) × (hash x ≡ h)

  -- `newest` leads from a hash to the newest item with it, and `nexts` from an item to the newest older one with the same
  -- hash
  pub record IsChained (newest : ℕ → Option ℕ) (items : List X) (nexts : List (Option ℕ)) : Type 0 where
    pub paired : length nexts ≡ length items
    pub reached : (k : ℕ) (c : X) → slice_get items k ≡ Some c → (m : ℕ) × (newest (hash c) ≡ Some m) × (k ≤ m)
    pub begun : (h m : ℕ) → newest h ≡ Some m → HasHash items m h
    pub linked : (m j : ℕ) (c : X) → slice_get items m ≡ Some c → slice_get nexts m ≡ Some (Some j) → (j < m) × HasHash items j (hash c)
    pub complete : (m k : ℕ) (c d : X) (next : Option ℕ) → slice_get items m ≡ Some c → slice_get nexts m ≡ Some next
        → slice_get items k ≡ Some d → k < m → hash d ≡ hash c → (j : ℕ) × (next ≡ Some j) × (k ≤ j)
