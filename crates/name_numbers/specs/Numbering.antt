-- Numbers while they are given: nodes get their numbers one after the other, each behind the node that encloses it.
use Rattle.std.specs.Prelude.{◌≡◌, ℕ, ◌+◌, ◌<◌, ◌≤◌, ◌⊎◌, ◌↔◌, Bool, true, false, List, Some, length, slice_get}
use Rattle.type_terms.specs.declared.name.TypeId.{TypeId}
use Rattle.name_numbers.specs.Names.{name_by, name_of, parent_at, id_at, is_root, max_texts, named_at, number_at, root_at, depth_at}
use Rattle.name_numbers.specs.Table.{Told, Finds, HasName}
use Rattle.name_numbers.specs.declared.numbering.Node.{Node}
use Rattle.name_numbers.specs.declared.numbering.Numbering.{Numbering}
use Rattle.name_numbers.specs.declared.table.Entry.{Entry}

-- The numbers, roots and depths of `count` nodes, of which those with a depth have a number; `Has` tells which names are noted: the
-- number of what encloses a node, its own text, and its number.
pub record HaveNumbers {X : Type 0} (up : ℕ → ℕ) (id : ℕ → X) (root : ℕ → Bool) (count most : ℕ) (Has : ℕ → X → ℕ → Type 0) (number origin depth : ℕ → ℕ) : Type 0 where
  pub roots : (k : ℕ) → k < count → root k ≡ true → (number k ≡ k) × (0 < depth k)
  pub steps : (k : ℕ) → k < count → root k ≡ false → 0 < depth k → 0 < depth (up k)
  pub has : (k : ℕ) → k < count → 0 < depth k → (path : List X) × (name_by up id root most k ≡ Some (origin k, path)) × (depth k ≡ length path + 1)
  pub same : (j k : ℕ) → j < count → k < count → 0 < depth j → 0 < depth k
      → (number j ≡ number k) ↔ (name_by up id root most j ≡ name_by up id root most k)
  pub there : (k : ℕ) → k < count → 0 < depth k → (number k < count) × (0 < depth (number k)) × (number (number k) ≡ number k)
  pub noted : (k : ℕ) → k < count → root k ≡ false → 0 < depth k → number k ≡ k → Has (number (up k)) (id k) k
  pub noting : (p : ℕ) (x : X) (k : ℕ) → Has p x k
      → (k < count) × (root k ≡ false) × (0 < depth k) × (number k ≡ k) × (p ≡ number (up k)) × (x ≡ id k)

-- a table has a name with a number
abbrev pub HasEntry : List ℕ → List Entry → ℕ → TypeId → ℕ → Type 0
HasEntry heap entries parent id number = HasName entries heap (record { parent = parent; id = id }) number

-- the state of the numbering
pub record IsNumbering (heap : List ℕ) (nodes : List Node) (last : ℕ) (state : Numbering) : Type 0 where
  pub finds : Finds state.table heap
  pub long : length state.named.items ≡ length nodes
  pub numbers : HaveNumbers (parent_at nodes) (id_at heap nodes) (is_root last) (length nodes) max_texts (HasEntry heap state.table.entries)
      (number_at state.named.items) (root_at state.named.items) (depth_at state.named.items)

-- all numbers that are noted lie below one
abbrev pub AreBelow : List Entry → ℕ → Type 0
AreBelow entries bound = (e : Entry) (k : ℕ) → slice_get entries k ≡ Some e → e.number < bound

-- what looking at the nodes of a range does: each whose encloser had a number has one
pub record Visits (heap : List ℕ) (nodes : List Node) (last from to : ℕ) (old new : Numbering) (changed : Bool) : Type 0 where
  pub state : IsNumbering heap nodes last new
  pub named : (k : ℕ) → from ≤ k → k < to → 0 < depth_at old.named.items (parent_at nodes k) → depth_at old.named.items (parent_at nodes k) ≤ max_texts
      → 0 < depth_at new.named.items k
  pub kept : (k : ℕ) → 0 < depth_at old.named.items k → named_at new.named.items k ≡ named_at old.named.items k
  pub outside : (k : ℕ) → (k < from) ⊎ (to ≤ k) → named_at new.named.items k ≡ named_at old.named.items k
  pub still : changed ≡ false → (k : ℕ) → named_at new.named.items k ≡ named_at old.named.items k
  pub below : (bound : ℕ) → to ≤ bound → AreBelow old.table.entries bound → AreBelow new.table.entries bound

-- what naming the nodes of a range does: each that has a name has a number
pub record Settles (heap : List ℕ) (nodes : List Node) (last from to : ℕ) (old new : Numbering) : Type 0 where
  pub state : IsNumbering heap nodes last new
  pub all : (k : ℕ) (name : ℕ × List TypeId) → from ≤ k → k < to → name_of heap nodes last k ≡ Some name → 0 < depth_at new.named.items k
  pub outside : (k : ℕ) → (k < from) ⊎ (to ≤ k) → named_at new.named.items k ≡ named_at old.named.items k
  pub below : (bound : ℕ) → to ≤ bound → AreBelow old.table.entries bound → AreBelow new.table.entries bound

-- the nodes of a range are no roots, and what encloses them are roots or lies in the range
pub record IsSort (nodes : List Node) (last from to : ℕ) : Type 0 where
  pub order : from ≤ to
  pub within : to ≤ length nodes
  pub there : (k : ℕ) → k < length nodes → parent_at nodes k < length nodes
  pub no_root : (k : ℕ) → from ≤ k → k < to → is_root last k ≡ false
  pub inside : (k : ℕ) → from ≤ k → k < to → (is_root last (parent_at nodes k) ≡ true) ⊎ ((from ≤ parent_at nodes k) × (parent_at nodes k < to))

-- what giving a name a number does: an old number, or this one, which is new
pub record GivesNumber (heap : List ℕ) (t : Told) (fresh : ℕ) (old new : List Entry) (number : ℕ) : Type 0 where
  pub keeps : (u : Told) (k : ℕ) → HasName old heap u k → HasName new heap u k
  pub only : (u : Told) (k : ℕ) → HasName new heap u k → HasName old heap u k ⊎ ((u ≡ t) × (k ≡ fresh) × (number ≡ fresh))
  pub here : HasName new heap t number
  pub old_or_new : HasName old heap t number ⊎ ((number ≡ fresh) × ((k : ℕ) → HasName old heap t k → ⊥))
  pub below : (bound : ℕ) → fresh < bound → AreBelow old bound → AreBelow new bound
