-- The declared interfaces that a type's own interfaces lead to (ECMA-335 II.12.2).
use Rattle.std.specs.Prelude.{◌≡◌, ◌⊎◌, ℕ, List, [], ◌∷◌, Option, Some, IsTrue}
use Rattle.std.specs.List.{Contains}
use Rattle.type_terms.specs.declared.term.SigType.{SigType}
use Rattle.assembly_tree.specs.declared.assembly.Assembly.{Assembly}
use Rattle.sig_pool.specs.declared.node.Node.{Node}
use Rattle.type_hierarchy.specs.Hierarchy.{Hierarchy}
use Rattle.type_order.specs.Found.{IsLedTo}
use Rattle.class_faces.specs.Ids.{AreIds}
use Rattle.class_faces.specs.Marked.{is_face, is_overriding}
use Rattle.class_faces.specs.declared.faces.Faces.{Faces}
use Rattle.class_notes.specs.declared.note.Open.{Open}

-- ids of all of them
abbrev pub AreLedIds : Assembly → Hierarchy → List Node → SigType → List ℕ → Type 0
AreLedIds a w ns t ids = AreIds ns (λ d. IsLedTo w t d × IsTrue (is_face a w d)) ids

-- all of them, and those with an override
pub record AreLedFaces (a : Assembly) (w : Hierarchy) (ns : List Node) (t : SigType) (f : Faces) : Type 0 where
  pub all : AreLedIds a w ns t f.all
  pub overriding : AreIds ns (λ d. IsLedTo w t d × IsTrue (is_overriding a w d)) f.overriding

-- ---- those that the parent hasn't, as far as it is known

-- a slot of the interface is among these
pub record IsFaceIn (opens : List Open) (face : ℕ) : Type 0 where
  pub open_at : Open
  pub among : Contains opens open_at
  pub is : open_at.face ≡ face

-- the pair of the parent and the interface is there, or the parent has passed on a slot of it
abbrev pub IsPassed : List (List ℕ) → Option ℕ → List Open → ℕ → Type 0
IsPassed pairs parent opens face = ((p : ℕ) × (parent ≡ Some p) × Contains pairs (p ∷ face ∷ [])) ⊎ IsFaceIn opens face

-- the interfaces of ids but for some that are passed on
pub record AreFresh (pairs : List (List ℕ)) (parent : Option ℕ) (opens : List Open) (faces fresh : List ℕ) : Type 0 where
  pub are : (k : ℕ) → Contains fresh k → Contains faces k
  pub all : (k : ℕ) → Contains faces k → Contains fresh k ⊎ IsPassed pairs parent opens k
