-- The way up from a type.
use Rattle.std.specs.Prelude.{◌≡◌, ℕ, ◌<◌, false, List, length, None, IsTrue}
use Rattle.sig_pool.specs.declared.node.Node.{Node}
use Rattle.sig_pool.specs.Terms.{term_of}
use Rattle.type_hierarchy.specs.Hierarchy.{Hierarchy, parent}
use Rattle.type_order.specs.Found.{IsLadder}
use Rattle.class_notes.specs.declared.climbing.Ladder.{Ladder}
use Rattle.class_notes.specs.declared.note.Notes.{Notes}
use Rattle.class_notes.specs.Notes.{IsNoted}

-- it leads from a type to the first of its ancestors that is known, or else to the last
pub record IsTopOf (w : Hierarchy) (ns : List Node) (n : Notes) (id : ℕ) (l : Ladder) : Type 0 where
  pub within : l.top < length ns
  pub ladder : IsLadder w ns id l.keys l.top
  pub noted : IsTrue l.is_noted → IsNoted n l.top
  pub last : l.is_noted ≡ false → parent w (term_of ns l.top) ≡ None
