-- When a value of one stack type may stand where another is wanted (ECMA-335 I.8.7.3, III.1.8.1.2.3), and how two stack
-- types merge (III.1.8.1.3).
use Rattle.std.specs.Prelude.{◌≡◌, ℕ, Option, Some, IsTrue}
use Rattle.std.specs.List.{Contains}
use Rattle.type_terms.specs.declared.term.SigType.{SigType}
use Rattle.type_hierarchy.specs.Hierarchy.{Hierarchy, object, parent, interfaces, Up, Chain, elements}
use Rattle.type_hierarchy.specs.Stack.{Stack, null, ref, boxed, bad, is_reference, reduced_type}

-- `a` and `b` are both vectors, or both arrays of one rank, with elements of the types `s` and `t`
pub record AreAlike (a b s t : SigType) : Type 0 where
  pub rank : Option ℕ
  pub left : elements a ≡ Some (record { rank = rank; of = s })
  pub right : elements b ≡ Some (record { rank = rank; of = t })

-- A value of the first type may stand where the second is wanted. There is no variance, and int32 may not stand for
-- native int.
pub data Assignable (w : Hierarchy) : Stack → Stack → Type 0 where
  -- a type itself
  same : {s : Stack} → (s ≡ bad → ⊥) → Assignable w s s
  -- null to every reference and boxed type
  null_ref : {t : SigType} → Assignable w null (ref t)
  null_boxed : {t : SigType} → Assignable w null (boxed t)
  -- references and boxed values to Object
  ref_object : {s t : SigType} → t ≡ object → Assignable w (ref s) (ref t)
  boxed_object : {s t : SigType} → t ≡ object → Assignable w (boxed s) (ref t)
  -- to an ancestor or an interface that it or an ancestor has, at any distance
  ref_up : {s t : SigType} → Up w s t → Assignable w (ref s) (ref t)
  -- of a boxed value: to what is above its parent or above one of its interfaces
  boxed_parent : {s t p : SigType} → parent w s ≡ Some p → Up w p t → Assignable w (boxed s) (ref t)
  boxed_interface : {s t p : SigType} → Contains (interfaces w s) p → Up w p t → Assignable w (boxed s) (ref t)
  -- arrays by their elements: reference types that are assignable, or types that reduce to one
  by_elements : {a b s t : SigType} → AreAlike a b s t → IsTrue (is_reference s) → IsTrue (is_reference t) → Assignable w (ref s) (ref t) → Assignable w (ref a) (ref b)
  by_reduced : {a b s t : SigType} → AreAlike a b s t → reduced_type w s ≡ reduced_type w t → Assignable w (ref a) (ref b)

-- The order of stack types: null below every reference and boxed type, each of those below its parents, and Bad above
-- everything. Interfaces and the elements of arrays play no part.
pub data Below (w : Hierarchy) : Stack → Stack → Type 0 where
  equal : {s : Stack} → Below w s s
  below_bad : {s : Stack} → Below w s bad
  null_below_ref : {t : SigType} → Below w null (ref t)
  null_below_boxed : {t : SigType} → Below w null (boxed t)
  ref_chain : {s t : SigType} → Chain w s t → Below w (ref s) (ref t)
  boxed_chain : {s t p : SigType} → parent w s ≡ Some p → Chain w p t → Below w (boxed s) (ref t)

-- `j` is the least of the types that both `s` and `t` are below
pub record IsJoin (w : Hierarchy) (s t j : Stack) : Type 0 where
  pub left : Below w s j
  pub right : Below w t j
  pub least : (u : Stack) → Below w s u → Below w t u → Below w j u
