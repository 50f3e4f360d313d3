-- What fills a slot is what is offered.
use Rattle.std.specs.Prelude.{◌↔◌, ℕ, List, ◌∷◌}
use Rattle.std.specs.List.{Contains}
use Rattle.type_terms.specs.declared.term.SigType.{SigType}
use Rattle.assembly_tree.specs.declared.assembly.Assembly.{Assembly}
use Rattle.assembly_tree.specs.declared.members.Method.{Method}
use Rattle.sig_pool.specs.declared.node.Node.{Node}
use Rattle.sig_pool.specs.Pool.{IsPool, Has}
use Rattle.type_hierarchy.specs.Hierarchy.{Hierarchy}
use Rattle.class_model.specs.Filled.{IsFilled}
use Rattle.class_members.specs.Facts.{Holds, IsKeyOf}
use Rattle.class_members.specs.Offers.{Offer}
use Rattle.class_members.specs.Wants.{IsAnswered}

-- a slot is filled where the type or an ancestor offers what it wants
abbrev pub FilledIsOffered : Type 0
FilledIsOffered = (a : Assembly) (w : Hierarchy) (t face : SigType) (slot : Method) → IsFilled a w t face slot ↔ IsAnswered a w t face slot

-- a fact is found by any id of its type and any key of its offer
abbrev pub HeldIsFound : Type 0
HeldIsFound =
    (ns : List Node) (facts : List (List ℕ)) (t : SigType) (x : Offer) (id : ℕ) (key : List ℕ) → IsPool ns → Has ns id t → IsKeyOf ns x key →
    Contains facts (id ∷ key) ↔ Holds ns facts t x
