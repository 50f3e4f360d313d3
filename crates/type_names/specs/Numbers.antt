-- Numbers of an image's types and references: two have one number exactly where they name one type (II.22.32, II.22.38).
use Rattle.std.specs.Prelude.{◌≡◌, ℕ, ◌+◌, ◌-◌, ◌<◌, ◌≤◌, ◌⊎◌, ◌↔◌, ◌==◌, if◌then◌else◌, List, Option, Some, None, length}
use Rattle.type_terms.specs.declared.name.Scope.{Scope}
use Rattle.type_terms.specs.declared.name.Scope.TheVariants.{Here}
use Rattle.type_terms.specs.declared.name.TypeId.{TypeId}
use Rattle.image_model.specs.Naming.{HasPath, HasRefPath}
use Rattle.image_model.specs.Rows.{count_of, HasRow}
use Rattle.image_model.specs.Structure.{max_path}
use Rattle.name_numbers.specs.Names.{named_at, number_at, root_at, depth_at}
use Rattle.name_numbers.specs.declared.numbering.Named.{Named}
use Rattle.type_names.specs.Forest.{ref_node, node_count}

-- what a node of a type or a reference names: where its path begins, and the path
pub data NodeNames (image : List ℕ) : ℕ → Scope → List TypeId → Type 0 where
  type : {row : ℕ} {path : List TypeId} → HasRow image 0x02 row → HasPath image row path → NodeNames image row Here path
  reference : {row k : ℕ} {scope : Scope} {path : List TypeId} → HasRow image 0x01 row → k ≡ ref_node image row
      → HasRefPath image row scope path → NodeNames image k scope path

-- the node of a type or a reference
abbrev pub IsNode : List ℕ → ℕ → Type 0
IsNode image k = (0 < k) × (k ≤ count_of image 0x02 + count_of image 0x01)

-- two nodes name one type
abbrev pub NameOne : List ℕ → ℕ → ℕ → Type 0
NameOne image j k = (scope : Scope) × (path : List TypeId) × NodeNames image j scope path × NodeNames image k scope path

-- These are the numbers: a node has one where it names a type by a path of at most 100 names.
pub record TellNames (image : List ℕ) (named : List Named) : Type 0 where
  pub long : length named ≡ node_count image
  pub has : (k : ℕ) → IsNode image k → (0 < depth_at named k) ↔ ((scope : Scope) × (path : List TypeId) × NodeNames image k scope path × (length path ≤ max_path))
  -- how many names its path has, and one more
  pub depth : (k : ℕ) (scope : Scope) (path : List TypeId) → IsNode image k → 0 < depth_at named k → NodeNames image k scope path → depth_at named k ≡ length path + 1
  -- whether it lies in the module
  pub root : (k : ℕ) (scope : Scope) (path : List TypeId) → IsNode image k → 0 < depth_at named k → NodeNames image k scope path → (root_at named k ≡ 0) ↔ (scope ≡ Here)
  pub same : (j k : ℕ) → IsNode image j → IsNode image k → 0 < depth_at named j → 0 < depth_at named k
      → (number_at named j ≡ number_at named k) ↔ NameOne image j k
  -- a number is that of a node with the same name, and that of a type has the number of a type
  pub there : (k : ℕ) → IsNode image k → 0 < depth_at named k → IsNode image (number_at named k) × (0 < depth_at named (number_at named k)) × (number_at named (number_at named k) ≡ number_at named k)
  pub early : (k : ℕ) → HasRow image 0x02 k → 0 < depth_at named k → HasRow image 0x02 (number_at named k)

-- ---- what is seen of the numbers of an image

pub record TypeNumbers : Type 0 where
  pub image : List ℕ
  pub named : List Named

-- the number of a node that has one
abbrev pub number_in : Named → Option ℕ
number_in named = if named.depth == 0 then None else Some named.number

abbrev pub number_of : List Named → ℕ → Option ℕ
number_of named k = number_in (named_at named k)

-- how many names the path of a node has
abbrev pub length_of : List Named → ℕ → ℕ
length_of named k = depth_at named k - 1

-- a name leads out of the module, or has the number of one of so many types
abbrev pub LeadsBy : ℕ → Named → Type 0
LeadsBy types named = (0 < named.depth) × ((0 < named.root) ⊎ (named.number ≤ types))
