-- What is known of types.
use Rattle.std.specs.Prelude.{◌≡◌, ◌⊎◌, ℕ, ◌<◌, List, [], ◌∷◌, length, slice_get, Some, IsTrue}
use Rattle.std.specs.List.{Contains}
use Rattle.type_terms.specs.declared.term.SigType.{SigType}
use Rattle.assembly_tree.specs.declared.assembly.Assembly.{Assembly}
use Rattle.assembly_tree.specs.declared.members.Method.{Method}
use Rattle.sig_pool.specs.declared.node.Node.{Node}
use Rattle.sig_pool.specs.Terms.{term_of}
use Rattle.type_hierarchy.specs.Hierarchy.{Hierarchy}
use Rattle.class_model.specs.Classes.{IsChecked}
use Rattle.class_model.specs.Filled.{IsFilled}
use Rattle.class_model.specs.Slots.{IsFace, is_slot, methods_in}
use Rattle.class_notes.specs.declared.note.Note.{Note}
use Rattle.class_notes.specs.declared.note.Note.TheVariants.{Skipped, Checked}
use Rattle.class_notes.specs.declared.note.Notes.{Notes}
use Rattle.class_notes.specs.declared.note.Open.{Open}
use Rattle.class_notes.specs.Reading.{AreTrue, IsReadAbove}

-- ---- slots without a method

-- a slot for which the type has no method
pub record IsOpen (a : Assembly) (w : Hierarchy) (ns : List Node) (t : SigType) (o : Open) : Type 0 where
  pub within : o.face < length ns
  pub face : IsFace a w t (term_of ns o.face)
  pub slot : Method
  pub is : slice_get (methods_in a w (term_of ns o.face)) o.place ≡ Some slot
  pub asked : IsTrue (is_slot slot)
  pub unfilled : IsFilled a w t (term_of ns o.face) slot → ⊥

-- the slot at that place of an interface is among these
pub record HasOpen (ns : List Node) (face : SigType) (place : ℕ) (os : List Open) : Type 0 where
  pub open_at : Open
  pub among : Contains os open_at
  pub within : open_at.face < length ns
  pub same_face : term_of ns open_at.face ≡ face
  pub same_place : open_at.place ≡ place

-- each slot of the interface is filled or among these
abbrev pub IsSettled : Assembly → Hierarchy → List Node → SigType → List Open → SigType → Type 0
IsSettled a w ns t os face = (slot : Method) (place : ℕ) → slice_get (methods_in a w face) place ≡ Some slot → IsTrue (is_slot slot) → IsFilled a w t face slot ⊎ HasOpen ns face place os

-- these are the slots for which the type has no method
pub record AreOpen (a : Assembly) (w : Hierarchy) (ns : List Node) (t : SigType) (os : List Open) : Type 0 where
  pub are : (o : Open) → Contains os o → IsOpen a w ns t o
  pub all : (face : SigType) → IsFace a w t face → IsSettled a w ns t os face

-- ---- notes

pub record IsCheckedNote (a : Assembly) (w : Hierarchy) (ns : List Node) (facts : List (List ℕ)) (t : SigType) (os : List Open) : Type 0 where
  pub checked : IsChecked a w t
  pub read : IsReadAbove a w ns facts t
  pub are_open : AreOpen a w ns t os

abbrev pub IsNote : Assembly → Hierarchy → List Node → List (List ℕ) → SigType → Note → Type 0
IsNote a w ns facts t Skipped = IsChecked a w t → ⊥
IsNote a w ns facts t (Checked os) = IsCheckedNote a w ns facts t os

-- the second id is that of an interface that the type of the first has
pub record IsPair (a : Assembly) (w : Hierarchy) (ns : List Node) (t face : ℕ) : Type 0 where
  pub type_within : t < length ns
  pub face_within : face < length ns
  pub is : IsFace a w (term_of ns t) (term_of ns face)

-- all of it is so
pub record Knows (a : Assembly) (w : Hierarchy) (ns : List Node) (n : Notes) : Type 0 where
  pub facts : AreTrue a w ns n.facts
  pub faces : (t face : ℕ) → Contains n.faces (t ∷ face ∷ []) → IsPair a w ns t face
  pub notes : (id : ℕ) (note : Note) → slice_get n.notes id ≡ Some (Some note) → (id < length ns) × IsNote a w ns n.facts (term_of ns id) note

-- there is a note of the type of an id
abbrev pub IsNoted : Notes → ℕ → Type 0
IsNoted n id = (note : Note) × (slice_get n.notes id ≡ Some (Some note))

abbrev pub none_noted : Notes
none_noted = record { facts = []; faces = []; notes = [] }
