-- The nearest type that two types have above them, and the list of a type and its ancestors.
use Rattle.std.specs.Prelude.{◌≡◌, ◌⊎◌, ℕ, ◌<◌, ◌-◌, List, [], ◌∷◌, ◌++◌, length, drop, get_or, None, Some}
use Rattle.type_terms.specs.declared.term.SigType.{SigType}
use Rattle.sig_pool.specs.declared.node.Node.{Node}
use Rattle.sig_pool.specs.Replaced.{terms_at}
use Rattle.sig_pool.specs.Terms.{AllBelow, term_of}
use Rattle.type_hierarchy.specs.Hierarchy.{Hierarchy, parent, Chain}

-- `t` and its ancestors, each before its parent, up to one that has none
pub data IsClimb (w : Hierarchy) : SigType → List SigType → Type 0 where
  top : {t : SigType} → parent w t ≡ None → IsClimb w t (t ∷ [])
  up : {t p : SigType} {ts : List SigType} → parent w t ≡ Some p → IsClimb w p ts → IsClimb w t (t ∷ ts)

-- `j` is on the chains of both, and each other type that is on both is on its chain
pub record IsNearest (w : Hierarchy) (s t j : SigType) : Type 0 where
  pub left : Chain w s j
  pub right : Chain w t j
  pub least : (u : SigType) → Chain w s u → Chain w t u → Chain w j u

-- an id of the nearest type
pub record HasNearest (w : Hierarchy) (s t : SigType) (ns : List Node) (id : ℕ) : Type 0 where
  pub within : id < length ns
  pub nearest : IsNearest w s t (term_of ns id)
