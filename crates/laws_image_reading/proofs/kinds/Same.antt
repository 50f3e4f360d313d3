-- Members with the same content are the same, and none of a list in which all differ stands twice.
use Rattle.std.proofs.Common.{◌≡◌, ap, refl, sym, ◌∙◌, subst, ℕ, zero, suc, Bool, true, false, true≢false, not, nat_eq, List, [], ◌∷◌, Option, Some, None, Contains}
use Rattle.std.specs.Prelude.{IsTrue, slice_get}
use Rattle.std.specs.Bool.{beq}
use Rattle.std.specs.Cmp.{IsTotalOrder, tied_itself}
use Rattle.std.specs.List.{AllZip, list_any}
use Rattle.std.specs.Ordering.{is_eq}
use Rattle.std.proofs.lemmas.Bool.{and_from, and_parts, eq-eqb, not-true, or_parts}
use lib.Pointwise.{pointwise}
use Rattle.assembly_tree.specs.WellFormedMembers.{is_same_text, is_same_field, is_same_method, is_same_property, is_same_event}
use Rattle.assembly_tree.specs.WellFormedNames.{all_differ}
use Rattle.assembly_tree.specs.declared.members.Event.{Event}
use Rattle.assembly_tree.specs.declared.members.Field.{Field}
use Rattle.assembly_tree.specs.declared.members.Method.{Method}
use Rattle.assembly_tree.specs.declared.members.Property.{Property}
use Rattle.type_terms.specs.Order.{term_order}
use Rattle.type_terms.specs.Same.{is_same_type, is_same_sentinel, is_same_signature}
use Rattle.type_terms.specs.declared.reference.MethodSig.{MethodSig}
use Rattle.type_terms.specs.declared.term.SigType.{SigType}
use Rattle.laws_image_reading.proofs.kinds.General.{beside, one_at, place_of}

-- ---- items of which no two are the same

not_later : {X : Type 0} (same : X → X → Bool) (x y : X) (xs : List X) (k : ℕ) → list_any (same x) xs ≡ false → slice_get xs k ≡ Some y → same x y ≡ true → ⊥
not_later same x y [] k h at e = absurd cc
not_later same x y (z ∷ xs) zero h at e =
    let first = or_parts (same x z) (list_any (same x) xs) h in
    let is : z ≡ y = cc in
    true≢false (sym e ∙ ap (same x) (sym is) ∙ first.0)
not_later same x y (z ∷ xs) (suc k) h at e = not_later same x y xs k (or_parts (same x z) (list_any (same x) xs) h).1 at e

-- two that are the same, whichever stands first, stand at one place
pub one_place : {X : Type 0} (same : X → X → Bool) (xs : List X) → IsTrue (all_differ same xs) → (j k : ℕ) (x y : X) → slice_get xs j ≡ Some x → slice_get xs k ≡ Some y
    → same x y ≡ true → same y x ≡ true → j ≡ k
one_place same [] h j k x y e f p q = absurd cc
one_place same (z ∷ xs) h zero zero x y e f p q = refl
one_place same (z ∷ xs) h zero (suc k) x y e f p q =
    let parts = and_parts (not (list_any (same z) xs)) (all_differ same xs) h in
    let is : z ≡ x = cc in
    absurd (not_later same z y xs k (not-true (list_any (same z) xs) parts.0) f (ap (λ w. same w y) is ∙ p))
one_place same (z ∷ xs) h (suc j) zero x y e f p q =
    let parts = and_parts (not (list_any (same z) xs)) (all_differ same xs) h in
    let is : z ≡ y = cc in
    absurd (not_later same z x xs j (not-true (list_any (same z) xs) parts.0) e (ap (λ w. same w x) is ∙ q))
one_place same (z ∷ xs) h (suc j) (suc k) x y e f p q =
    ap suc (one_place same xs (and_parts (not (list_any (same z) xs)) (all_differ same xs) h).1 j k x y e f p q)

-- two rows of a run whose items are the same are one
pub one_row : {X : Type 0} (Is : ℕ → X → Type 0) (same : X → X → Bool) (rows : List ℕ) (xs : List X) → AllZip Is rows xs → IsTrue (all_differ same xs) → (a b : ℕ)
    → ((x y : X) → Is a x → Is b y → (same x y ≡ true) × (same y x ≡ true)) → Contains rows a → Contains rows b → a ≡ b
one_row Is same rows xs z h a b alike in_a in_b =
    let at_a = place_of rows a in_a in
    let at_b = place_of rows b in_b in
    let by_a = beside Is rows xs at_a.0 a z at_a.1 in
    let by_b = beside Is rows xs at_b.0 b z at_b.1 in
    let is = alike by_a.0 by_b.0 by_a.2 by_b.2 in
    let place = one_place same xs h at_a.0 at_b.0 by_a.0 by_b.0 by_a.1 by_b.1 is.0 is.1 in
    one_at (slice_get rows at_b.0) a b (ap (slice_get rows) (sym place) ∙ at_a.1) at_b.1

-- ---- contents

own_text : (x : List ℕ) → is_same_text x x ≡ true
own_text [] = refl
own_text (n ∷ x) = and_from (nat_eq n n) (pointwise nat_eq x x) (eq-eqb n n refl) (own_text x)

same_text : (x y : List ℕ) → x ≡ y → is_same_text x y ≡ true
same_text x y e = subst (λ z. is_same_text x z ≡ true) e (own_text x)

pub same_event : (e f : Event) → e.name ≡ f.name → is_same_event e f ≡ true
unfolding is_same_event
same_event e f n = same_text e.name f.name n

-- where the order of types is total
module _ (total : IsTotalOrder term_order) where
  own_type : (t : SigType) → is_same_type t t ≡ true
  own_type t = ap is_eq (tied_itself total t)

  same_type : (t u : SigType) → t ≡ u → is_same_type t u ≡ true
  same_type t u e = subst (λ v. is_same_type t v ≡ true) e (own_type t)

  own_types : (ts : List SigType) → pointwise is_same_type ts ts ≡ true
  own_types [] = refl
  own_types (t ∷ ts) = and_from (is_same_type t t) (pointwise is_same_type ts ts) (own_type t) (own_types ts)

  own_flag : (b : Bool) → beq b b ≡ true
  own_flag true = refl
  own_flag false = refl

  own_sentinel : (o : Option ℕ) → is_same_sentinel o o ≡ true
  own_sentinel None = refl
  own_sentinel (Some k) = eq-eqb k k refl

  own_signature : (s : MethodSig) → is_same_signature s s ≡ true
  unfolding is_same_signature
  own_signature s =
      and_from _ _ (and_from _ _ (and_from _ _ (and_from _ _ (and_from _ _ (and_from _ _ (own_flag s.has_this) (own_flag s.explicit_this)) (own_flag s.vararg)) (eq-eqb s.generic s.generic refl))
      (own_sentinel s.sentinel)) (own_type s.ret)) (own_types s.params)

  same_signature : (s u : MethodSig) → s ≡ u → is_same_signature s u ≡ true
  same_signature s u e = subst (λ v. is_same_signature s v ≡ true) e (own_signature s)

  pub same_field : (f g : Field) → f.name ≡ g.name → f.of ≡ g.of → is_same_field f g ≡ true
  unfolding is_same_field
  same_field f g n t = and_from (is_same_text f.name g.name) (is_same_type f.of g.of) (same_text f.name g.name n) (same_type f.of g.of t)

  pub same_method : (m n : Method) → m.name ≡ n.name → m.sig ≡ n.sig → is_same_method m n ≡ true
  unfolding is_same_method
  same_method m n e s = and_from (is_same_text m.name n.name) (is_same_signature m.sig n.sig) (same_text m.name n.name e) (same_signature m.sig n.sig s)

  pub same_property : (p q : Property) → p.name ≡ q.name → p.sig ≡ q.sig → is_same_property p q ≡ true
  unfolding is_same_property
  same_property p q e s = and_from (is_same_text p.name q.name) (is_same_signature p.sig q.sig) (same_text p.name q.name e) (same_signature p.sig q.sig s)
