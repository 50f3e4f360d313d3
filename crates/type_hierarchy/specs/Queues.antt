-- Lists of ids by which what lies above types is found.
use Rattle.std.specs.Prelude.{◌≡◌, ◌⊎◌, ℕ, List, [], ◌∷◌, ◌++◌, length, Option, None, Some}
use Rattle.std.specs.List.{Contains}
use Rattle.type_terms.specs.declared.term.SigType.{SigType}
use Rattle.sig_pool.specs.declared.node.Node.{Node}
use Rattle.sig_pool.specs.Terms.{AllBelow, term_of}
use Rattle.type_hierarchy.specs.Hierarchy.{Hierarchy, parent, interfaces, Up}

-- `new` has the ids of `old` before others, each of which is that one
pub record IsAdded (old new : List ℕ) (id : ℕ) : Type 0 where
  pub more : List ℕ
  pub is : new ≡ old ++ more
  pub only : (k : ℕ) → Contains more k → k ≡ id
  pub has : Contains new id

-- `new` has the ids of `old` before others, which are among `ids`, and has all of these
pub record AddsAll (old new ids : List ℕ) : Type 0 where
  pub more : List ℕ
  pub is : new ≡ old ++ more
  pub only : (k : ℕ) → Contains more k → Contains ids k
  pub has : (k : ℕ) → Contains ids k → Contains new k

abbrev pub optional : Option ℕ → List ℕ
optional None = []
optional (Some id) = id ∷ []

-- one of the ids is of the type `t`
pub record HasType (ns : List Node) (ids : List ℕ) (t : SigType) : Type 0 where
  pub id : ℕ
  pub among : Contains ids id
  pub is : term_of ns id ≡ t

-- `u` is the parent of `t` or one of its interfaces
abbrev pub IsStep : Hierarchy → SigType → SigType → Type 0
IsStep w t u = (parent w t ≡ Some u) ⊎ Contains (interfaces w t) u

-- `new` has the ids of `old` before others, whose types are the parent and the interfaces of `t`, and has these all
pub record AddsSteps (w : Hierarchy) (ns : List Node) (t : SigType) (old new : List ℕ) : Type 0 where
  pub more : List ℕ
  pub is : new ≡ old ++ more
  pub within : AllBelow (length ns) more
  pub only : (k : ℕ) → Contains more k → IsStep w t (term_of ns k)
  pub has : (u : SigType) → IsStep w t u → HasType ns new u

-- `t` is above the type of one of the ids
pub record UpFromSome (w : Hierarchy) (ns : List Node) (ids : List ℕ) (t : SigType) : Type 0 where
  pub id : ℕ
  pub among : Contains ids id
  pub up : Up w (term_of ns id) t
