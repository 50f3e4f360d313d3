-- How the slots for which a type has no method are found.
use Rattle.std.specs.Prelude.{◌≡◌, ◌⊎◌, ℕ, ◌<◌, false, List, [], ◌∷◌, ◌++◌, slice_get, Bool, Option, None, Some, IsTrue}
use Rattle.std.specs.List.{Contains}
use Rattle.type_terms.specs.declared.term.SigType.{SigType}
use Rattle.assembly_tree.specs.declared.assembly.Assembly.{Assembly}
use Rattle.assembly_tree.specs.declared.members.Method.{Method}
use Rattle.sig_pool.specs.declared.node.Node.{Node}
use Rattle.sig_pool.specs.Terms.{term_of}
use Rattle.type_hierarchy.specs.Hierarchy.{Hierarchy}
use Rattle.class_model.specs.Filled.{IsFilled}
use Rattle.class_model.specs.Slots.{IsFace, is_slot, methods_in}
use Rattle.class_notes.specs.declared.note.Open.{Open}
use Rattle.class_notes.specs.Notes.{IsOpen, IsPair, IsSettled}
use Rattle.class_notes.specs.Reading.{IsOwnFilled}

abbrev pub IsWithin : ℕ → Open → Type 0
IsWithin n o = o.face < n

-- whether the type has no method of its own for a slot
pub record IsLeft (a : Assembly) (w : Hierarchy) (ns : List Node) (t : SigType) (o : Open) (r : Bool) : Type 0 where
  pub left : IsTrue r → (slot : Method) → slice_get (methods_in a w (term_of ns o.face)) o.place ≡ Some slot → IsOwnFilled a w t (term_of ns o.face) slot → ⊥
  pub filled : r ≡ false → (slot : Method) → slice_get (methods_in a w (term_of ns o.face)) o.place ≡ Some slot → IsOwnFilled a w t (term_of ns o.face) slot

-- those of some slots for which the type has no method of its own
pub record AreStill (a : Assembly) (w : Hierarchy) (ns : List Node) (t : SigType) (opens left : List Open) : Type 0 where
  pub are : (o : Open) → Contains left o → Contains opens o × ((slot : Method) → slice_get (methods_in a w (term_of ns o.face)) o.place ≡ Some slot → IsOwnFilled a w t (term_of ns o.face) slot → ⊥)
  pub all : (o : Open) (slot : Method) → Contains opens o → slice_get (methods_in a w (term_of ns o.face)) o.place ≡ Some slot → IsOwnFilled a w t (term_of ns o.face) slot ⊎ Contains left o

-- a method of an interface is added where it is a slot that isn't filled
abbrev pub AddsSlot : Assembly → Hierarchy → SigType → SigType → Method → Open → List Open → List Open → Type 0
AddsSlot a w t face m o old new =
    ((is_slot m ≡ false) × (new ≡ old))
    ⊎ ((IsFilled a w t face m × (new ≡ old)) ⊎ (IsTrue (is_slot m) × (IsFilled a w t face m → ⊥) × (new ≡ old ++ o ∷ [])))

-- `o` is one of these methods of an interface, and a slot that isn't filled
pub record IsOpenOf (a : Assembly) (w : Hierarchy) (ns : List Node) (t : SigType) (face : ℕ) (methods : List Method) (o : Open) : Type 0 where
  pub same_face : o.face ≡ face
  pub slot : Method
  pub is : slice_get methods o.place ≡ Some slot
  pub asked : IsTrue (is_slot slot)
  pub unfilled : IsFilled a w t (term_of ns face) slot → ⊥

-- `new` has the slots of `old` and those of these methods of an interface that aren't filled
pub record AddsSlots (a : Assembly) (w : Hierarchy) (ns : List Node) (t : SigType) (face : ℕ) (methods : List Method) (old new : List Open) : Type 0 where
  pub more : List Open
  pub is : new ≡ old ++ more
  pub are : (o : Open) → Contains more o → IsOpenOf a w ns t face methods o
  pub all : (slot : Method) (place : ℕ) → slice_get methods place ≡ Some slot → IsTrue (is_slot slot) →
      IsFilled a w t (term_of ns face) slot ⊎ Contains more (record { face = face; place = place })

-- each pair of ids is that of a type and of an interface that it has
abbrev pub PairsAreFaces : Assembly → Hierarchy → List Node → List (List ℕ) → Type 0
PairsAreFaces a w ns pairs = (t face : ℕ) → Contains pairs (t ∷ face ∷ []) → IsPair a w ns t face

-- the parent has the interface
abbrev pub IsFaceOf : Assembly → Hierarchy → List Node → Option ℕ → SigType → Type 0
IsFaceOf a w ns None face = ⊥
IsFaceOf a w ns (Some p) face = IsFace a w (term_of ns p) face

-- `new` has the slots of `old` and those of these interfaces that aren't filled
pub record AddsFaces (a : Assembly) (w : Hierarchy) (ns : List Node) (t : SigType) (faces : List ℕ) (old new : List Open) : Type 0 where
  pub more : List Open
  pub is : new ≡ old ++ more
  pub are : (o : Open) → Contains more o → IsOpen a w ns t o
  pub settled : (k : ℕ) → Contains faces k → IsSettled a w ns t new (term_of ns k)
