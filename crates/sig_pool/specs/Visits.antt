-- What a substitution has done so far: which ids are replaced, and by which.
use Rattle.std.specs.Prelude.{◌≡◌, ◌⊎◌, ℕ, ◌+◌, ◌<◌, ◌≤◌, Bool, true, false, List, length, get_or, Option, Some, IsSome}
use Rattle.std.specs.List.{Contains}
use Rattle.type_terms.specs.declared.term.Primitive.TheVariants.{Void}
use Rattle.sig_pool.specs.declared.node.Node.{Node}
use Rattle.sig_pool.specs.declared.node.Node.TheVariants.{Prim, Class, Value, Inst, Var, MVar, SzArray, Array, ByRef, Pointer, Mod, Pinned}
use Rattle.sig_pool.specs.declared.node.NodeOwner.{NodeOwner}
use Rattle.sig_pool.specs.declared.node.NodeOwner.TheVariants.{Name, Spec}
use Rattle.sig_pool.specs.Terms.{term_of}
use Rattle.sig_pool.specs.Pool.{Has}
use Rattle.sig_pool.specs.Reached.{Reaches}
use Rattle.sig_pool.specs.Replaced.{replaced, terms_at}

-- the node at a place that is there
abbrev pub node_at : List Node → ℕ → Node
node_at ns k = get_or ns k (Prim Void)

-- whether a node has no children
abbrev pub is_leaf : Node → Bool
is_leaf (Prim p) = true
is_leaf (Class n) = true
is_leaf (Value n) = true
is_leaf (Inst v n args) = false
is_leaf (Var n) = true
is_leaf (MVar n) = true
is_leaf (SzArray k) = false
is_leaf (Array k r s l) = false
is_leaf (ByRef k) = false
is_leaf (Pointer k) = false
is_leaf (Mod r o k) = false
is_leaf (Pinned k) = false

abbrev pub owner_with : NodeOwner → ℕ → NodeOwner
owner_with (Name n) j = Name n
owner_with (Spec k) j = Spec j

-- a node with other children in the place of its own
abbrev pub with_children : Node → List ℕ → Node
with_children (Inst v n args) ks = Inst v n ks
with_children (SzArray k) ks = SzArray (get_or ks 0 0)
with_children (Array k r s l) ks = Array (get_or ks 0 0) r s l
with_children (ByRef k) ks = ByRef (get_or ks 0 0)
with_children (Pointer k) ks = Pointer (get_or ks 0 0)
with_children (Mod r o k) ks = Mod r (owner_with o (get_or ks 1 0)) (get_or ks 0 0)
with_children (Pinned k) ks = Pinned (get_or ks 0 0)
with_children n ks = n

-- each id that `find` knows leads to the id of its replaced type
abbrev pub IsDone : List Node → List ℕ → List ℕ → (ℕ → Option ℕ) → Type 0
IsDone ns classes methods find = (k v : ℕ) → find k ≡ Some v → (k < length ns) × Has ns v (replaced (terms_at ns classes) (terms_at ns methods) (term_of ns k))

-- `k` can be reached from one of the ids
abbrev pub SomeReach : List Node → List ℕ → ℕ → Type 0
SomeReach ns ids k = (j : ℕ) × Contains ids j × Reaches ns k j

-- `after` knows what `before` knows and ids that can be reached from `ids`, and the pool grew by at most one node for
-- each new one, where `m` and `n` count what they know
pub record Visits (ns ms : List Node) (ids : List ℕ) (before after : ℕ → Option ℕ) (m n : ℕ) : Type 0 where
  pub keys : (k : ℕ) → IsSome (after k) → IsSome (before k) ⊎ SomeReach ns ids k
  pub growth : length ms + m ≤ length ns + n
