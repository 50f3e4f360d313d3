-- Properties and events, from their parts.
use Rattle.std.proofs.Common.{◌≡◌, ℕ, ◌+◌, List, [], ◌∷◌, ◌++◌, Option, Some, map, take, ap, sym, ◌∙◌}
use Rattle.std.specs.Prelude.{Bool, true, filter, if◌then◌else◌, slice_get, IfOk, OnOk, Result, Ok, Err}
use Rattle.std.proofs.lemmas.List.{map-append}
use Rattle.std.proofs.lemmas.List.Elements.{filter-append}
use Rattle.assembly_tree.specs.declared.members.Accessor.{Accessor}
use Rattle.assembly_tree.specs.declared.members.Attribute.{Attribute}
use Rattle.assembly_tree.specs.declared.members.Constant.{Constant}
use Rattle.assembly_tree.specs.declared.members.Event.{Event}
use Rattle.assembly_tree.specs.declared.members.Property.{Property}
use Rattle.type_terms.specs.declared.reference.MethodSig.{MethodSig}
use Rattle.type_terms.specs.declared.term.Owner.{Owner}
use Rattle.source_nodes.proofs.PieceLemmas.{take_next}

-- ---- records of equal parts

abbrev pub property_of : List ℕ → ℕ → MethodSig → Option Constant → List Accessor → List Attribute → Property
property_of a0 a1 a2 a3 a4 a5 = record { name = a0; flags = a1; sig = a2; constant = a3; accessors = a4; attributes = a5 }

pub same_property : (a0 b0 : List ℕ) (a1 b1 : ℕ) (a2 b2 : MethodSig) (a3 b3 : Option Constant) (a4 b4 : List Accessor) (a5 b5 : List Attribute)
    → a0 ≡ b0 → a1 ≡ b1 → a2 ≡ b2 → a3 ≡ b3 → a4 ≡ b4 → a5 ≡ b5 → property_of a0 a1 a2 a3 a4 a5 ≡ property_of b0 b1 b2 b3 b4 b5
same_property a0 b0 a1 b1 a2 b2 a3 b3 a4 b4 a5 b5 h0 h1 h2 h3 h4 h5 = λ i. property_of (h0 i) (h1 i) (h2 i) (h3 i) (h4 i) (h5 i)

abbrev pub event_of : List ℕ → ℕ → Owner → List Accessor → List Attribute → Event
event_of a0 a1 a2 a3 a4 = record { name = a0; flags = a1; of = a2; accessors = a3; attributes = a4 }

pub same_event : (a0 b0 : List ℕ) (a1 b1 : ℕ) (a2 b2 : Owner) (a3 b3 : List Accessor) (a4 b4 : List Attribute)
    → a0 ≡ b0 → a1 ≡ b1 → a2 ≡ b2 → a3 ≡ b3 → a4 ≡ b4 → event_of a0 a1 a2 a3 a4 ≡ event_of b0 b1 b2 b3 b4
same_event a0 b0 a1 b1 a2 b2 a3 b3 a4 b4 h0 h1 h2 h3 h4 = λ i. event_of (h0 i) (h1 i) (h2 i) (h3 i) (h4 i)

-- ---- what is picked from a list, one by one

module _ {X Y Z : Type 0} (test : X → Bool) (g : X → Y) (h : Y → Z) where
  abbrev pub picked : List X → List Z
  picked xs = map h (map g (filter test xs))

  pub picked_next : (xs : List X) (i : ℕ) (x : X) (zs : List Z) → slice_get xs i ≡ Some x → zs ≡ picked (take i xs) → zs ++ picked (x ∷ []) ≡ picked (take (i + 1) xs)
  picked_next xs i x zs at e =
      ap (λ ws. ws ++ picked (x ∷ [])) e
      ∙ sym (map-append h (map g (filter test (take i xs))) (map g (filter test (x ∷ []))))
      ∙ ap (map h) (sym (map-append g (filter test (take i xs)) (filter test (x ∷ []))))
      ∙ ap (λ ws. map h (map g ws)) (sym (filter-append test (take i xs) (x ∷ [])))
      ∙ ap picked (sym (take_next xs i x at))

  pub picked_one : (x : X) → test x ≡ true → picked (x ∷ []) ≡ h (g x) ∷ []
  picked_one x e = ap (λ (c : Bool). map h (map g (if c then x ∷ [] else []))) e

-- what a call did that went well
pub went_well : {T E : Type 0} (r : Result T E) (P Q : Type 0) → (P → Q) → OnOk r P → IfOk r (λ (x : T). Q)
went_well (Ok x) P Q step h = step h
went_well (Err e) P Q step h = tt
