-- What holds of each pool, and of a pool before and after a call.
use Rattle.std.specs.Prelude.{◌≡◌, ℕ, ◌<◌, List, ◌++◌, map, length, slice_get, Some}
use Rattle.type_terms.specs.declared.term.SigType.{SigType}
use Rattle.sig_pool.specs.declared.node.Node.{Node}
use Rattle.sig_pool.specs.Terms.{children, AllBelow, term_of}

-- each child's id is below its own, and no node stands twice
pub record IsPool (ns : List Node) : Type 0 where
  pub below : (k : ℕ) (n : Node) → slice_get ns k ≡ Some n → AllBelow k (children n)
  pub distinct : (j k : ℕ) (n : Node) → slice_get ns j ≡ Some n → slice_get ns k ≡ Some n → j ≡ k

-- `new` has the nodes of `old`, each at its place and with its type, and perhaps more
pub record Extends (old new : List Node) : Type 0 where
  pub more : List Node
  pub nodes : new ≡ old ++ more
  pub terms : (k : ℕ) → k < length old → term_of new k ≡ term_of old k

-- `id` is a place in the pool, and its type is `t`
pub record Has (ns : List Node) (id : ℕ) (t : SigType) : Type 0 where
  pub within : id < length ns
  pub term : term_of ns id ≡ t

-- the ids are places in the pool, and their types are `ts`
pub record HasAll (ns : List Node) (ids : List ℕ) (ts : List SigType) : Type 0 where
  pub within : AllBelow (length ns) ids
  pub terms : map (term_of ns) ids ≡ ts
