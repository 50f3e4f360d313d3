-- Ids of types of some kind.
use Rattle.std.specs.Prelude.{ℕ, List, length}
use Rattle.std.specs.List.{Contains}
use Rattle.type_terms.specs.declared.term.SigType.{SigType}
use Rattle.sig_pool.specs.declared.node.Node.{Node}
use Rattle.sig_pool.specs.Terms.{AllBelow, term_of}
use Rattle.type_hierarchy.specs.Queues.{HasType}

-- ids of the types that `P` holds of: of each of them one, and no others
pub record AreIds (ns : List Node) (P : SigType → Type 0) (ids : List ℕ) : Type 0 where
  pub within : AllBelow (length ns) ids
  pub are : (id : ℕ) → Contains ids id → P (term_of ns id)
  pub all : (t : SigType) → P t → HasType ns ids t
