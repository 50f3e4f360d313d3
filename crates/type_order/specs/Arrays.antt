-- The elements of arrays as a pool has them.
use Rattle.std.specs.Prelude.{◌≡◌, ◌⊎◌, ◌&&◌, ℕ, ◌<◌, List, Option, None, Some}
use Rattle.type_terms.specs.declared.term.SigType.{SigType}
use Rattle.sig_pool.specs.declared.node.Node.{Node}
use Rattle.sig_pool.specs.Terms.{term_of}
use Rattle.type_order.specs.declared.arrays.Element.{Element}
use Rattle.type_order.specs.declared.arrays.Pair.{Pair}
use Rattle.type_hierarchy.specs.Hierarchy.{Hierarchy, Elements, object, Up}
use Rattle.type_hierarchy.specs.Relations.{AreAlike}
use Rattle.type_hierarchy.specs.Stack.{is_reference}

-- the element as a type
abbrev pub elements_at : List Node → Option Element → Option Elements
elements_at ns None = None
elements_at ns (Some e) = Some (record { rank = e.rank; of = term_of ns e.of })

-- the elements of two arrays that are alike, whose ids are below theirs
pub record IsPairOf (ns : List Node) (a b : ℕ) (e : Pair) : Type 0 where
  pub alike : AreAlike (term_of ns a) (term_of ns b) (term_of ns e.from) (term_of ns e.to)
  pub references : e.references ≡ (is_reference (term_of ns e.from) && is_reference (term_of ns e.to))
  pub left : e.from < a
  pub right : e.to < b

-- `t` is Object or above `s`
abbrev pub IsObjectOrUp : Hierarchy → SigType → SigType → Type 0
IsObjectOrUp w s t = (t ≡ object) ⊎ Up w s t
