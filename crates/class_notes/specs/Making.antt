-- How a note of a type is made from that of its parent.
use Rattle.std.specs.Prelude.{◌≡◌, ◌⊎◌, ℕ, List, [], ◌∷◌, ◌++◌, slice_get, Option, None, Some, IsTrue}
use Rattle.std.specs.List.{Contains}
use Rattle.type_terms.specs.declared.term.SigType.{SigType}
use Rattle.assembly_tree.specs.declared.assembly.Assembly.{Assembly}
use Rattle.sig_pool.specs.declared.node.Node.{Node}
use Rattle.sig_pool.specs.Terms.{term_of}
use Rattle.type_hierarchy.specs.Hierarchy.{Hierarchy}
use Rattle.class_faces.specs.Marked.{is_face}
use Rattle.class_notes.specs.declared.note.Note.TheVariants.{Skipped, Checked}
use Rattle.class_notes.specs.declared.note.Notes.{Notes}
use Rattle.class_notes.specs.declared.note.Open.{Open}
use Rattle.class_notes.specs.Notes.{AreOpen, IsNoted, IsOpen, IsSettled, Knows}
use Rattle.class_notes.specs.Opening.{IsFaceOf}
use Rattle.class_notes.specs.Reading.{IsReadAbove}

-- ---- the parent

abbrev pub IsParentNoted : Notes → Option ℕ → Type 0
IsParentNoted n None = Unit {0}
IsParentNoted n (Some p) = IsNoted n p

abbrev pub IsParentSkipped : Notes → Option ℕ → Type 0
IsParentSkipped n None = ⊥
IsParentSkipped n (Some p) = slice_get n.notes p ≡ Some (Some Skipped)

abbrev pub IsParentChecked : Notes → Option ℕ → Type 0
IsParentChecked n None = Unit {0}
IsParentChecked n (Some p) = (os : List Open) × (slice_get n.notes p ≡ Some (Some (Checked os)))

-- slots of the parent's interfaces for which the type has no method, and all of these
pub record ArePassed (a : Assembly) (w : Hierarchy) (ns : List Node) (t : SigType) (parent : Option ℕ) (os : List Open) : Type 0 where
  pub are : (o : Open) → Contains os o → IsOpen a w ns t o
  pub of : (o : Open) → Contains os o → IsFaceOf a w ns parent (term_of ns o.face)
  pub settled : (face : SigType) → IsFaceOf a w ns parent face → IsSettled a w ns t os face

-- ---- the type itself

-- `new` has the slots of `old` and, where the type is an interface, those of its own that aren't filled
pub record AddsItself (a : Assembly) (w : Hierarchy) (ns : List Node) (t : SigType) (old new : List Open) : Type 0 where
  pub more : List Open
  pub is : new ≡ old ++ more
  pub are : (o : Open) → Contains more o → IsOpen a w ns t o
  pub settled : IsTrue (is_face a w t) → IsSettled a w ns t new t

-- `new` has the pairs of `old`, and others only of that id with one of these
abbrev pub AddsPairs : ℕ → List ℕ → List (List ℕ) → List (List ℕ) → Type 0
AddsPairs key faces old new = (k : List ℕ) → Contains new k → Contains old k ⊎ ((face : ℕ) × Contains faces face × (k ≡ key ∷ face ∷ []))

-- what is found of a type that is checked
pub record Finds (a : Assembly) (w : Hierarchy) (ns : List Node) (t : SigType) (old new : Notes) (os : List Open) : Type 0 where
  pub knows : Knows a w ns new
  pub same : new.notes ≡ old.notes
  pub read : IsReadAbove a w ns new.facts t
  pub are_open : AreOpen a w ns t os
