-- Laws of the relations on stack types, over every hierarchy in which parents and interfaces come to an end.
use Rattle.std.specs.Prelude.{◌≡◌, ℕ, ◌<◌, None, Some, IsTrue}
use Rattle.std.specs.List.{Contains}
use Rattle.type_terms.specs.declared.term.SigType.{SigType}
use Rattle.type_terms.specs.declared.term.Primitive.{Primitive}
use Rattle.type_hierarchy.specs.Names.{is_integral}
use Rattle.type_hierarchy.specs.Hierarchy.{Hierarchy, parent, interfaces, elements, underlying}
use Rattle.type_hierarchy.specs.Stack.{Stack, bad}
use Rattle.type_hierarchy.specs.Relations.{Assignable, Below, IsJoin}

-- Ways up come to an end: each type is higher than its parent, by this height. No parent or interface is a vector or an
-- array, and the values of an enum are bool, char or integers.
pub record IsGrounded (w : Hierarchy) (height : SigType → ℕ) : Type 0 where
  pub lower : (s t : SigType) → parent w s ≡ Some t → height t < height s
  pub no_parent_array : (s t : SigType) → parent w s ≡ Some t → elements t ≡ None
  pub no_interface_array : (s t : SigType) → Contains (interfaces w s) t → elements t ≡ None
  pub integral : (t : SigType) (p : Primitive) → underlying w t ≡ Some p → IsTrue (is_integral p)

-- ---- assignable

abbrev pub IsReflexive : Hierarchy → Type 0
IsReflexive w = (s : Stack) → (s ≡ bad → ⊥) → Assignable w s s

abbrev pub IsTransitive : Hierarchy → Type 0
IsTransitive w = (s t u : Stack) → Assignable w s t → Assignable w t u → Assignable w s u

-- ---- the order, and joins

-- reflexive, transitive, and no two types are below each other
pub record IsOrder (w : Hierarchy) : Type 0 where
  pub reflexive : (s : Stack) → Below w s s
  pub transitive : (s t u : Stack) → Below w s t → Below w t u → Below w s u
  pub antisymmetric : (s t : Stack) → Below w s t → Below w t s → s ≡ t

pub record JoinLaws (w : Hierarchy) : Type 0 where
  -- two types have one join
  pub unique : (s t j k : Stack) → IsJoin w s t j → IsJoin w s t k → j ≡ k
  pub commutative : (s t j : Stack) → IsJoin w s t j → IsJoin w t s j
  pub associative : (s t u j k l : Stack) → IsJoin w s t j → IsJoin w t u k → IsJoin w j u l → IsJoin w s k l
  pub idempotent : (s : Stack) → IsJoin w s s s
  -- a type is assignable to its join with another, unless that is Bad
  pub assignable : (s t j : Stack) → IsJoin w s t j → (j ≡ bad → ⊥) → Assignable w s j
