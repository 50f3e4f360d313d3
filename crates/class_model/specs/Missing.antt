-- The slots for which the checked classes of an assembly have no method.
use Rattle.std.specs.Prelude.{◌≡◌, ◌↔◌, ℕ, ◌+◌, List, [], ◌∷◌, ◌++◌, map, None}
use Rattle.std.specs.List.{Contains}
use Rattle.std.specs.List.Sorted.{IsStrictlySortedBy}
use Rattle.type_terms.specs.declared.name.Scope.TheVariants.{Here}
use Rattle.type_terms.specs.declared.term.Owner.{Owner}
use Rattle.type_terms.specs.declared.term.Owner.TheOpen.{SigType-F, Prim, Class, Value, Inst, Var, MVar, SzArray, Array, ByRef, Pointer, Mod, Pinned}
use Rattle.type_terms.specs.declared.term.Owner.TheVariants as owner
use Rattle.type_terms.specs.declared.term.SigType.{SigType, out-SigType}
use Rattle.type_terms.specs.Order.{term_order}
use Rattle.assembly_tree.specs.declared.assembly.Assembly.{Assembly}
use Rattle.assembly_tree.specs.declared.members.Method.{Method}
use Rattle.type_hierarchy.specs.Hierarchy.{Hierarchy, core_name}
use Rattle.type_hierarchy.specs.Names.{class_of}
use Rattle.class_model.specs.declared.report.Slot.{Slot}
use Rattle.class_model.specs.declared.report.ClassReport.{ClassReport}
use Rattle.class_model.specs.declared.row.Row.{Row}
use Rattle.class_model.specs.Classes.{classes, own_type, IsChecked}
use Rattle.class_model.specs.Filled.{IsFilled}
use Rattle.class_model.specs.Slots.{IsFace, slots_of}

-- ---- what is reported

-- an interface as the owner of a method: a name, or an instantiation. A primitive type goes by its name in the core
abbrev pub layer_owner : Hierarchy → SigType → SigType-F Owner SigType → Owner
layer_owner w t (Class name) = owner.Name name
layer_owner w t (Value name) = owner.Name name
layer_owner w t (Prim p) = owner.Name (core_name w (class_of p))
layer_owner w t (Inst value name args) = owner.Spec t
layer_owner w t (Var n) = owner.Spec t
layer_owner w t (MVar n) = owner.Spec t
layer_owner w t (SzArray of) = owner.Spec t
layer_owner w t (Array of rank sizes lower) = owner.Spec t
layer_owner w t (ByRef of) = owner.Spec t
layer_owner w t (Pointer of) = owner.Spec t
layer_owner w t (Mod required by of) = owner.Spec t
layer_owner w t (Pinned of) = owner.Spec t

abbrev pub owner_of : Hierarchy → SigType → Owner
owner_of w t = layer_owner w t (out-SigType t)

-- the slot of a class with that row
abbrev pub slot_for : Hierarchy → Row → SigType → Method → Slot
slot_for w r face m = record {
  of = record { scope = Here; path = r.path };
  method = record { owner = owner_of w face; name = m.name; sig = m.sig; args = None };
}

-- ---- which are missing

-- the items of a list for which `P` doesn't hold, in order
pub data AreWithout {X : Type 0} (P : X → Type 0) : List X → List X → Type 0 where
  none : AreWithout P [] []
  keeps : {x : X} {xs ys : List X} → (P x → ⊥) → AreWithout P xs ys → AreWithout P (x ∷ xs) (x ∷ ys)
  drops : {x : X} {xs ys : List X} → P x → AreWithout P xs ys → AreWithout P (x ∷ xs) ys

-- an interface of the type with a slot that isn't filled
pub record IsLacking (a : Assembly) (w : Hierarchy) (t face : SigType) : Type 0 where
  pub is_face : IsFace a w t face
  pub slot : Method
  pub among : Contains (slots_of a w face) slot
  pub unfilled : IsFilled a w t face slot → ⊥

-- those interfaces, in the order of terms
pub record AreLacking (a : Assembly) (w : Hierarchy) (t : SigType) (faces : List SigType) : Type 0 where
  pub rising : IsStrictlySortedBy term_order faces
  pub are : (face : SigType) → Contains faces face ↔ IsLacking a w t face

-- the slots of these interfaces that aren't filled, one interface after the other
pub data AreMissing (a : Assembly) (w : Hierarchy) (r : Row) (t : SigType) : List SigType → List Slot → Type 0 where
  no_face : AreMissing a w r t [] []
  next_face : {face : SigType} {faces : List SigType} {ms : List Method} {rest : List Slot} →
      AreWithout (IsFilled a w t face) (slots_of a w face) ms → AreMissing a w r t faces rest →
      AreMissing a w r t (face ∷ faces) (map (slot_for w r face) ms ++ rest)

-- the slots without a method of the checked ones of some classes, with the numbers of those that are checked and of those that aren't
pub data Lists (a : Assembly) (w : Hierarchy) : List Row → List Slot → ℕ → ℕ → Type 0 where
  no_class : Lists a w [] [] 0 0
  skipped : {r : Row} {rs : List Row} {slots : List Slot} {n k : ℕ} →
      (IsChecked a w (own_type w r) → ⊥) → Lists a w rs slots n k → Lists a w (r ∷ rs) slots n (k + 1)
  checked : {r : Row} {rs : List Row} {faces : List SigType} {here slots : List Slot} {n k : ℕ} →
      IsChecked a w (own_type w r) → AreLacking a w (own_type w r) faces → AreMissing a w r (own_type w r) faces here →
      Lists a w rs slots n k → Lists a w (r ∷ rs) (here ++ slots) (n + 1) k

-- the report of an assembly
abbrev pub IsReport : Assembly → Hierarchy → ClassReport → Type 0
IsReport a w report = Lists a w (classes a) report.missing report.checked report.skipped
