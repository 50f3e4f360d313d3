-- The names of a forest's nodes, and their numbers. A name is the root from which it leads and one text after the other, each with
-- its space.
use Rattle.std.specs.Prelude.{◌≡◌, ℕ, zero, suc, ◌+◌, ◌^◌, ◌<◌, ◌≤◌, ◌⊎◌, ◌↔◌, ◌==◌, ◌||◌, nat_le, if◌then◌else◌, Bool, true, false, List, [], ◌∷◌, ◌++◌, Option, Some, None, length, slice_index_or}
use Rattle.type_terms.specs.declared.name.TypeId.{TypeId}
use Rattle.name_numbers.specs.Texts.{text_in}
use Rattle.name_numbers.specs.declared.numbering.Named.{Named}
use Rattle.name_numbers.specs.declared.numbering.Node.{Node}

-- ---- names

-- a name, with one text more
abbrev pub longer : {X : Type 0} → X → Option (ℕ × List X) → Option (ℕ × List X)
longer x None = None
longer x (Some name) = Some (name.0, name.1 ++ x ∷ [])

-- the name of a node, where it has at most so many texts: from its root on the texts of the nodes that enclose it, and its own
unfoldable pub name_by : {X : Type 0} → (ℕ → ℕ) → (ℕ → X) → (ℕ → Bool) → ℕ → ℕ → Option (ℕ × List X)
name_by up id root zero k = if root k then Some (k, []) else None
name_by up id root (suc most) k = if root k then Some (k, []) else longer (id k) (name_by up id root most (up k))

-- how many texts a name may have
abbrev pub max_texts : ℕ
max_texts = 100

-- ---- nodes

abbrev pub node_at : List Node → ℕ → Node
node_at nodes k = slice_index_or nodes k (record { parent = 0; space = 0; text = 0 })

abbrev pub parent_at : List Node → ℕ → ℕ
parent_at nodes k = (node_at nodes k).parent

abbrev pub id_at : List ℕ → List Node → ℕ → TypeId
id_at heap nodes k = record { space = text_in heap (node_at nodes k).space; name = text_in heap (node_at nodes k).text }

-- node 0 and those from `last` on are roots
abbrev pub is_root : ℕ → ℕ → Bool
is_root last k = k == 0 || nat_le last k

-- the name of a node of at most 100 texts
abbrev pub name_of : List ℕ → List Node → ℕ → ℕ → Option (ℕ × List TypeId)
name_of heap nodes last k = name_by (parent_at nodes) (id_at heap nodes) (is_root last) max_texts k

-- the nodes that enclose nodes are there; those of a sort, before `middle` and from there to `last`, lie in their sort or in roots
pub record AreNodes (nodes : List Node) (middle last : ℕ) : Type 0 where
  pub some : 0 < middle
  pub order : middle ≤ last
  pub within : last ≤ length nodes
  pub few : length nodes < 2 ^ 32
  pub there : (k : ℕ) → k < length nodes → parent_at nodes k < length nodes
  pub first : (k : ℕ) → k < middle → parent_at nodes k < middle
  pub second : (k : ℕ) → middle ≤ k → k < last → (is_root last (parent_at nodes k) ≡ true) ⊎ (middle ≤ parent_at nodes k)

-- ---- numbers

abbrev pub named_at : List Named → ℕ → Named
named_at named k = slice_index_or named k (record { number = 0; root = 0; depth = 0 })

abbrev pub number_at : List Named → ℕ → ℕ
number_at named k = (named_at named k).number

abbrev pub root_at : List Named → ℕ → ℕ
root_at named k = (named_at named k).root

abbrev pub depth_at : List Named → ℕ → ℕ
depth_at named k = (named_at named k).depth

abbrev pub root_named : ℕ → Named
root_named k = record { number = k; root = k; depth = 1 }

-- of so many nodes the roots have their own number, and no other node has one
pub record AreRoots (count last : ℕ) (named : List Named) : Type 0 where
  pub long : length named ≡ count
  pub root : (k : ℕ) → k < count → is_root last k ≡ true → named_at named k ≡ root_named k
  pub other : (k : ℕ) → k < count → is_root last k ≡ false → depth_at named k ≡ 0

-- each node with a name of at most 100 texts has a number, with the root and the length of its name; two have one number exactly
-- where they have one name
pub record AreNumbers (heap : List ℕ) (nodes : List Node) (middle last : ℕ) (named : List Named) : Type 0 where
  pub long : length named ≡ length nodes
  pub has : (k : ℕ) → k < length nodes → 0 < depth_at named k
      → (path : List TypeId) × (name_of heap nodes last k ≡ Some (root_at named k, path)) × (depth_at named k ≡ length path + 1)
  pub all : (k : ℕ) (name : ℕ × List TypeId) → k < length nodes → name_of heap nodes last k ≡ Some name → 0 < depth_at named k
  pub same : (j k : ℕ) → j < length nodes → k < length nodes → 0 < depth_at named j → 0 < depth_at named k
      → (number_at named j ≡ number_at named k) ↔ (name_of heap nodes last j ≡ name_of heap nodes last k)
  -- a number is that of a node with the same name, of the first sort where there is one
  pub there : (k : ℕ) → k < length nodes → 0 < depth_at named k
      → (number_at named k < length nodes) × (0 < depth_at named (number_at named k)) × (number_at named (number_at named k) ≡ number_at named k)
  pub early : (k : ℕ) → k < middle → 0 < depth_at named k → number_at named k < middle
