-- What contracts see of a world: the nodes of its pool of types, and what it says of types.
use Rattle.std.specs.Prelude.{◌≡◌, ◌⊎◌, ℕ, ◌<◌, List, length, slice_get, Option, Some}
use Rattle.type_terms.specs.declared.term.SigType.{SigType}
use Rattle.sig_pool.specs.declared.node.Node.{Node}
use Rattle.sig_pool.specs.Pool.{Has, Extends}
use Rattle.sig_pool.specs.Terms.{term_of}
use Rattle.type_hierarchy.specs.declared.tables.Tables.{Tables}
use Rattle.type_hierarchy.specs.Hierarchy.{Hierarchy, parent}
use Rattle.type_hierarchy.specs.Tables.{hierarchy_in}

pub record Content : Type 0 where
  pub nodes : List Node
  pub tables : Tables

-- what the world says of types
abbrev pub hierarchy : Content → Hierarchy
hierarchy w = hierarchy_in w.tables

-- the type of an id
abbrev pub type_at : Content → ℕ → SigType
type_at w id = term_of w.nodes id

-- `new` says the same of types as `old`, and each id keeps its type
pub record Stays (old new : Content) : Type 0 where
  pub tables : new.tables ≡ old.tables
  pub nodes : Extends old.nodes new.nodes

-- ---- parents that are kept

-- an id of a type, and one of its parent
pub record IsParent (w : Hierarchy) (ns : List Node) (id parent_id : ℕ) : Type 0 where
  pub within : id < length ns
  pub type : SigType
  pub is : parent w (term_of ns id) ≡ Some type
  pub has : Has ns parent_id type

-- each parent that is kept at the place of an id is that of its type
abbrev pub KnowsParents : Hierarchy → List Node → List (Option ℕ) → Type 0
KnowsParents w ns kept = (id p : ℕ) → slice_get kept id ≡ Some (Some p) → IsParent w ns id p

-- `new` knows what `old` knows, and nothing more than that one parent
abbrev pub Notes : List (Option ℕ) → List (Option ℕ) → ℕ → ℕ → Type 0
Notes old new id parent_id =
    (k p : ℕ) → slice_get new k ≡ Some (Some p) → (slice_get old k ≡ Some (Some p)) ⊎ ((k ≡ id) × (p ≡ parent_id))

-- ---- a world as it is stored

pub record IsReady (nodes : List Node) (tables : Tables) (kept : List (Option ℕ)) : Type 0 where
  pub paired : length tables.names ≡ length tables.entries
  pub parents : KnowsParents (hierarchy_in tables) nodes kept
