-- What is known of the offers of types.
use Rattle.std.specs.Prelude.{◌≡◌, ◌⊎◌, ℕ, List, None}
use Rattle.std.specs.List.{Contains}
use Rattle.type_terms.specs.declared.term.SigType.{SigType}
use Rattle.assembly_tree.specs.declared.assembly.Assembly.{Assembly}
use Rattle.assembly_tree.specs.declared.members.Method.{Method}
use Rattle.sig_pool.specs.declared.node.Node.{Node}
use Rattle.sig_pool.specs.Pool.{Has}
use Rattle.type_hierarchy.specs.Hierarchy.{Hierarchy, Chain, object}
use Rattle.class_model.specs.Classes.{declaration}
use Rattle.class_members.specs.Facts.{Adds, IsFact, Holds}
use Rattle.class_members.specs.Offers.{Offer, object_offers, IsOffered}
use Rattle.class_members.specs.Wants.{wants}

-- a fact that is true
pub record IsTrueFact (a : Assembly) (w : Hierarchy) (ns : List Node) (k : List ℕ) : Type 0 where
  pub id : ℕ
  pub type : SigType
  pub has : Has ns id type
  pub offer : Offer
  pub is : IsFact ns id offer k
  pub offered : IsOffered a w type offer

abbrev pub AreTrue : Assembly → Hierarchy → List Node → List (List ℕ) → Type 0
AreTrue a w ns facts = (k : List ℕ) → Contains facts k → IsTrueFact a w ns k

-- all that the type offers is among the facts
abbrev pub IsRead : Assembly → Hierarchy → List Node → List (List ℕ) → SigType → Type 0
IsRead a w ns facts t = (x : Offer) → IsOffered a w t x → Holds ns facts t x

abbrev pub IsReadAbove : Assembly → Hierarchy → List Node → List (List ℕ) → SigType → Type 0
IsReadAbove a w ns facts t = (u : SigType) → Chain w t u → IsRead a w ns facts u

-- `new` has the facts of `old` and all that the type of an id offers
pub record Reads (a : Assembly) (w : Hierarchy) (ns : List Node) (at : ℕ) (t : SigType) (old new : List (List ℕ)) : Type 0 where
  pub kept : (k : List ℕ) → Contains old k → Contains new k
  pub has : (x : Offer) → IsOffered a w t x → (fact : List ℕ) × IsFact ns at x fact × Contains new fact
  pub only : (k : List ℕ) → Contains new k → Contains old k ⊎ ((x : Offer) × IsOffered a w t x × IsFact ns at x k)

-- the type offers something that fills the slot
pub record IsOwnFilled (a : Assembly) (w : Hierarchy) (t face : SigType) (slot : Method) : Type 0 where
  pub want : Offer
  pub among : Contains (wants w face slot) want
  pub offered : IsOffered a w t want

abbrev pub IsBareObject : Assembly → Hierarchy → SigType → Type 0
IsBareObject a w t = (t ≡ object) × (declaration a w object ≡ None)

-- `new` has the facts of `old` and, where the type of an id is the core's Object and isn't declared, all that it offers
abbrev pub AddsObject : Assembly → Hierarchy → List Node → ℕ → SigType → List (List ℕ) → List (List ℕ) → Type 0
AddsObject a w ns at t old new =
    (IsBareObject a w t × Adds ns at object_offers old new) ⊎ ((IsBareObject a w t → ⊥) × (new ≡ old))

-- all that is among the facts is true, and all that a type and its ancestors offer is among them
pub record HasRead (a : Assembly) (w : Hierarchy) (ns : List Node) (facts : List (List ℕ)) (t : SigType) : Type 0 where
  pub all_true : AreTrue a w ns facts
  pub above : IsReadAbove a w ns facts t
