-- A heap as its callers see it.
use Rattle.std.specs.Prelude.{◌≡◌, ℕ, List, [], ◌∷◌, ◌++◌, Contains}

-- its bytes, and the indexes that hold its contents
pub record Heap : Type 0 where
  pub bytes : List ℕ
  pub used : List ℕ

-- no content stands at two of the indexes; `Has` says what stands at an index
abbrev pub HoldsOnce : (List ℕ → ℕ → List ℕ → Type 0) → Heap → Type 0
HoldsOnce Has heap = (j k : ℕ) (content : List ℕ) → Contains heap.used j → Contains heap.used k
    → Has heap.bytes j content → Has heap.bytes k content → j ≡ k

-- the new heap is the old one, or has one entry more at its end, whose bytes and index these are
abbrev pub Grows : (List ℕ → Type 0) → Heap → Heap → ℕ → Type 0
Grows IsEntry old new index = (entry : List ℕ) × (new.bytes ≡ old.bytes ++ entry) × (new.used ≡ old.used ++ index ∷ []) × IsEntry entry

-- each of the indexes holds a content
abbrev pub HoldsEach : (List ℕ → ℕ → List ℕ → Type 0) → Heap → Type 0
HoldsEach Has heap = (index : ℕ) → Contains heap.used index → (content : List ℕ) × Has heap.bytes index content
