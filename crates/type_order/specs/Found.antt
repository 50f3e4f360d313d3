-- What a world has found out of its types, by their ids.
use Rattle.std.specs.Prelude.{◌≡◌, ◌⊎◌, ◌↔◌, ℕ, ◌<◌, ◌≤◌, List, [], ◌++◌, ◌∷◌, length, slice_get, Option, None, Some}
use Rattle.std.specs.List.{Contains}
use Rattle.type_terms.specs.declared.name.TypeId.{TypeId}
use Rattle.type_terms.specs.declared.term.SigType.{SigType}
use Rattle.type_terms.specs.declared.term.SigType.TheVariants as type
use Rattle.sig_pool.specs.declared.node.Node.{Node}
use Rattle.sig_pool.specs.Pool.{Has}
use Rattle.sig_pool.specs.Terms.{AllBelow, term_of}
use Rattle.type_hierarchy.specs.Hierarchy.{Hierarchy, parent, interfaces, Up, Chain}
use Rattle.type_hierarchy.specs.Normal.{normal}
use Rattle.type_hierarchy.specs.Queues.{HasType, UpFromSome}
use Rattle.type_hierarchy.specs.Tables.{hierarchy_in}
use Rattle.type_hierarchy.specs.World.{KnowsParents}
use Rattle.type_hierarchy.specs.declared.tables.Tables.{Tables}
use Rattle.type_order.specs.Common.{IsClimb}
use Rattle.type_order.specs.declared.common.Sides.{Sides}
use Rattle.type_order.specs.Keys.{reading_of}
use Rattle.type_order.specs.OwnTypes.{own_class}
use Rattle.type_order.specs.declared.found.Found.{Found}
use Rattle.type_order.specs.declared.found.Own.{Own}
use Rattle.type_order.specs.declared.found.Standing.{Standing}
use Rattle.type_order.specs.declared.own.OwnKeys.{OwnKeys}

-- ---- how deep a type stands

-- the number of a type and its ancestors
abbrev pub HasDepth : Hierarchy → SigType → ℕ → Type 0
HasDepth w t d = (ts : List SigType) × IsClimb w t ts × (length ts ≡ d)

-- where the type of an id stands
pub record IsStanding (w : Hierarchy) (ns : List Node) (id : ℕ) (s : Standing) : Type 0 where
  pub within : id < length ns
  pub depth : HasDepth w (term_of ns id) s.depth
  pub jump : s.jump < length ns
  pub chain : Chain w (term_of ns id) (term_of ns s.jump)
  pub reach : HasDepth w (term_of ns s.jump) s.reach

-- that depth isn't below the type's own
abbrev pub IsNoLower : Hierarchy → SigType → ℕ → Type 0
IsNoLower w t depth = (d : ℕ) → HasDepth w t d → depth ≤ d

-- `r` is the id of an ancestor of `t`, between two depths
pub record IsBetween (w : Hierarchy) (ns : List Node) (t : SigType) (least above r : ℕ) : Type 0 where
  pub within : r < length ns
  pub chain : Chain w t (term_of ns r)
  pub depth : ℕ
  pub has : HasDepth w (term_of ns r) depth
  pub low : least ≤ depth
  pub high : depth < above

-- `r` is the id of the type at that depth on the chain of `t`
pub record IsRaised (w : Hierarchy) (ns : List Node) (t : SigType) (depth r : ℕ) : Type 0 where
  pub within : r < length ns
  pub chain : Chain w t (term_of ns r)
  pub has : HasDepth w (term_of ns r) depth

-- ids of types, each of which is the parent of the one before it; the first is `id`, and `at` is behind the last
pub data IsLadder (w : Hierarchy) (ns : List Node) (id : ℕ) : List ℕ → ℕ → Type 0 where
  foot : {ids : List ℕ} {at : ℕ} → ids ≡ [] → at ≡ id → IsLadder w ns id ids at
  rung : {ids more : List ℕ} {x at : ℕ} → ids ≡ more ++ x ∷ [] → x < length ns → parent w (term_of ns x) ≡ Some (term_of ns at)
      → IsLadder w ns id more x → IsLadder w ns id ids at

-- the ids of two types at one depth, on the chains of `s` and `t`, above which lies all that is on both of these
pub record AreSides (w : Hierarchy) (ns : List Node) (s t : SigType) (x : Sides) : Type 0 where
  pub left_within : x.left < length ns
  pub right_within : x.right < length ns
  pub left : Chain w s (term_of ns x.left)
  pub right : Chain w t (term_of ns x.right)
  pub left_depth : HasDepth w (term_of ns x.left) x.depth
  pub right_depth : HasDepth w (term_of ns x.right) x.depth
  pub left_common : (u : SigType) → Chain w s u → Chain w t u → Chain w (term_of ns x.left) u
  pub right_common : (u : SigType) → Chain w s u → Chain w t u → Chain w (term_of ns x.right) u

-- they are less deep than before
pub record AreHigher (w : Hierarchy) (ns : List Node) (s t : SigType) (depth : ℕ) (x : Sides) : Type 0 where
  pub sides : AreSides w ns s t x
  pub higher : x.depth < depth

-- ---- what interfaces lead to

-- `t` is an interface of `s` itself, or above one
pub record IsLedTo (w : Hierarchy) (s t : SigType) : Type 0 where
  pub by : SigType
  pub listed : Contains (interfaces w s) by
  pub up : Up w by t

-- the interfaces of `s` or of one of its ancestors lead to `t`
pub record IsLedByChain (w : Hierarchy) (s t : SigType) : Type 0 where
  pub at : SigType
  pub chain : Chain w s at
  pub led : IsLedTo w at t

-- the ids of all types that the interfaces of an id's type lead to
pub record AreLed (w : Hierarchy) (ns : List Node) (id : ℕ) (ids : List ℕ) : Type 0 where
  pub within : id < length ns
  pub all : AllBelow (length ns) ids
  pub exact : (t : SigType) → HasType ns ids t ↔ IsLedTo w (term_of ns id) t

-- `new` are the ids of all types above those of `old`
pub record AreAbove (w : Hierarchy) (ns ms : List Node) (old new : List ℕ) : Type 0 where
  pub within : AllBelow (length ms) new
  pub exact : (t : SigType) → HasType ms new t ↔ UpFromSome w ns old t

-- ---- a class as its own body names it

-- the ids are those of the class and of a pointer to it
pub record IsOwn (w : Hierarchy) (ns : List Node) (o : Own) : Type 0 where
  pub class : Has ns o.class (normal (reading_of w) (own_class o.path o.parameters))
  pub pointer : Has ns o.pointer (normal (reading_of w) (type.ByRef (own_class o.path o.parameters)))

-- it is the class of that path, with as many parameters
abbrev pub IsOwnOf : Own → List TypeId → ℕ → Type 0
IsOwnOf o path parameters = (o.path ≡ path) × (o.parameters ≡ parameters)

abbrev pub AreKeysOf : Own → OwnKeys → Type 0
AreKeysOf o k = (k.class ≡ o.class) × (k.pointer ≡ o.pointer)

-- keys of the class of that path and of a pointer to it
pub record AreOwnKeys (w : Hierarchy) (ns : List Node) (path : List TypeId) (parameters : ℕ) (k : OwnKeys) : Type 0 where
  pub class : Has ns k.class (normal (reading_of w) (own_class path parameters))
  pub pointer : Has ns k.pointer (normal (reading_of w) (type.ByRef (own_class path parameters)))

-- ---- what is kept

-- `new` has what `old` has, and nothing more than that one item
abbrev pub Puts : {X : Type 0} → List (Option X) → List (Option X) → ℕ → X → Type 0
Puts {X} old new place item =
    (k : ℕ) (x : X) → slice_get new k ≡ Some (Some x) → (slice_get old k ≡ Some (Some x)) ⊎ ((k ≡ place) × (x ≡ item))

-- all of it is so
pub record Knows (w : Hierarchy) (ns : List Node) (f : Found) : Type 0 where
  pub parents : KnowsParents w ns f.parents
  pub standings : (id : ℕ) (s : Standing) → slice_get f.standings id ≡ Some (Some s) → IsStanding w ns id s
  pub led : (id : ℕ) (ids : List ℕ) → slice_get f.led id ≡ Some (Some ids) → AreLed w ns id ids
  pub own : (o : Own) → f.own ≡ Some o → IsOwn w ns o

abbrev pub none_found : Found
none_found = record { parents = []; standings = []; led = []; own = None }

-- a world as it is stored
pub record IsReady (nodes : List Node) (tables : Tables) (found : Found) : Type 0 where
  pub paired : length tables.names ≡ length tables.entries
  pub known : Knows (hierarchy_in tables) nodes found
