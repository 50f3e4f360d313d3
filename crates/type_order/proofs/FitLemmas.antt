-- Ways in which a value of one type may stand for another, by the kinds of the two.
use Rattle.std.proofs.Common.{◌≡◌, inl, inr, refl, sym, ◌∙◌, ap, subst, ℕ, ◌<◌, ◌↔◌, Bool, true, false, ◌&&◌, List, [], length, Option, None, Some, IsTrue}
use Rattle.type_terms.specs.declared.term.Primitive.TheVariants as prim
use Rattle.type_terms.specs.declared.term.Owner.{Owner}
use Rattle.type_terms.specs.declared.term.Owner.TheOpen.{SigType-F, Prim, Class, Value, Inst, Var, MVar, SzArray, Array, ByRef, Pointer, Mod, Pinned}
use Rattle.type_terms.specs.declared.term.SigType.{SigType, out-SigType}
use Rattle.type_terms.specs.declared.term.SigType.TheVariants as type
use Rattle.sig_pool.specs.declared.node.Node.{Node}
use Rattle.sig_pool.specs.Pool.{Extends}
use Rattle.sig_pool.specs.Terms.{term_of}
use Rattle.type_order.specs.declared.arrays.Pair.{Pair}
use Rattle.type_order.specs.Answers.{RefersTo, IsAsElements}
use Rattle.type_order.specs.Arrays.{IsPairOf, IsObjectOrUp}
use Rattle.type_order.specs.Found.{IsLedTo}
use Rattle.type_hierarchy.specs.Hierarchy.{Hierarchy, Elements, object, parent, Up, itself}
use Rattle.type_hierarchy.specs.Relations.{AreAlike, Assignable, same, null_ref, null_boxed, ref_object, boxed_object, ref_up, boxed_parent, boxed_interface, by_elements, by_reduced}
use Rattle.type_hierarchy.specs.Stack.{Stack, i4, i8, native, float, null, ref, boxed, val, ptr, bad, is_reference, reduced_type, primitive, layer_primitive}
use Rattle.type_hierarchy.proofs.Climbing.{none_some, some_same, same_layer}

-- ---- elements

abbrev one_element : SigType → Option Elements → SigType
one_element d None = d
one_element d (Some e) = e.of

alike_left : {a b s t u v : SigType} → AreAlike a b s t → AreAlike a b u v → s ≡ u
alike_left {s = s} x y = ap (one_element s) (sym x.left ∙ y.left)

alike_right : {a b s t u v : SigType} → AreAlike a b s t → AreAlike a b u v → t ≡ v
alike_right {t = t} x y = ap (one_element t) (sym x.right ∙ y.right)

-- ---- references

-- to Object or up, or by elements
data RefWay (w : Hierarchy) (a b : SigType) : Type 0 where
  is_up : IsObjectOrUp w a b → RefWay w a b
  elements_reduce : {s t : SigType} → AreAlike a b s t → reduced_type w s ≡ reduced_type w t → RefWay w a b
  elements_refer : {s t : SigType} → AreAlike a b s t → IsTrue (is_reference s) → IsTrue (is_reference t) → Assignable w (ref s) (ref t) → RefWay w a b

ref_way : (w : Hierarchy) {a b : SigType} → Assignable w (ref a) (ref b) → RefWay w a b
ref_way w (same h) = is_up (inr itself)
ref_way w (ref_object e) = is_up (inl e)
ref_way w (ref_up u) = is_up (inr u)
ref_way w (by_elements x p q r) = elements_refer x p q r
ref_way w (by_reduced x e) = elements_reduce x e

pub up_refers : (w : Hierarchy) {a b : SigType} → IsObjectOrUp w a b → Assignable w (ref a) (ref b)
up_refers w (inl e) = ref_object e
up_refers w (inr u) = ref_up u

-- where the two aren't alike
pub plain_refers : (w : Hierarchy) (a b : SigType) (r : Bool) → ((s t : SigType) → AreAlike a b s t → ⊥) → (IsTrue r ↔ IsObjectOrUp w a b) → IsTrue r ↔ Assignable w (ref a) (ref b)
plain_refers w a b r none h = (λ t. up_refers w (h.0 t), λ q. h.1 (up (ref_way w q)))
  where
    up : RefWay w a b → IsObjectOrUp w a b
    up (is_up u) = u
    up (elements_reduce {s = s} {t = t} x e) = absurd (none s t x)
    up (elements_refer {s = s} {t = t} x p q f) = absurd (none s t x)

-- where they are alike, neither to Object nor up, and the elements don't reduce to one
pub elements_refer_only : (w : Hierarchy) (a b s t : SigType) → AreAlike a b s t → (reduced_type w s ≡ reduced_type w t → ⊥) → (IsObjectOrUp w a b → ⊥)
    → Assignable w (ref a) (ref b) → IsTrue (is_reference s) × (IsTrue (is_reference t) × Assignable w (ref s) (ref t))
elements_refer_only w a b s t x apart low q = go (ref_way w q)
  where
    go : RefWay w a b → IsTrue (is_reference s) × (IsTrue (is_reference t) × Assignable w (ref s) (ref t))
    go (is_up u) = absurd (low u)
    go (elements_reduce y e) = absurd (apart (ap (reduced_type w) (alike_left x y) ∙ e ∙ sym (ap (reduced_type w) (alike_right x y))))
    go (elements_refer {s = u} {t = v} y p r f) =
        let l : u ≡ s = sym (alike_left x y) in
        let m : v ≡ t = sym (alike_right x y) in (
          subst (λ (k : SigType). IsTrue (is_reference k)) l p,
          (subst (λ (k : SigType). IsTrue (is_reference k)) m r, subst (λ (k : SigType). Assignable w (ref s) (ref k)) m (subst (λ (k : SigType). Assignable w (ref k) (ref v)) l f)),
        )

both_true : (x y : Bool) → IsTrue (x && y) → IsTrue x × IsTrue y
both_true true true h = (refl, refl)
both_true true false h = absurd (let f : ⊥ = cc in f)
both_true false y h = absurd (let f : ⊥ = cc in f)

true_both : (x y : Bool) → IsTrue x → IsTrue y → IsTrue (x && y)
true_both true true p q = refl
true_both true false p q = absurd (let f : ⊥ = cc in f)
true_both false y p q = absurd (let f : ⊥ = cc in f)

module _ (w : Hierarchy) (ns : List Node) (a b : ℕ) (e : Pair) (p : IsPairOf ns a b e) where
  pub reduced_refers : reduced_type w (term_of ns e.from) ≡ reduced_type w (term_of ns e.to) → RefersTo w ns a b
  reduced_refers h = by_reduced p.alike h

  module _ (apart : reduced_type w (term_of ns e.from) ≡ reduced_type w (term_of ns e.to) → ⊥) (low : IsObjectOrUp w (term_of ns a) (term_of ns b) → ⊥) where
    pub as_elements : e.references ≡ true → IsAsElements w ns a b e.from e.to
    as_elements h =
        let r : IsTrue (is_reference (term_of ns e.from)) × IsTrue (is_reference (term_of ns e.to)) =
        both_true (is_reference (term_of ns e.from)) (is_reference (term_of ns e.to)) (sym p.references ∙ h) in
        record {
          left = p.left;
          right = p.right;
          same = (λ q. (elements_refer_only w (term_of ns a) (term_of ns b) (term_of ns e.from) (term_of ns e.to) p.alike apart low q).1.1, λ q. by_elements p.alike r.0 r.1 q);
        }

    pub no_elements : e.references ≡ false → RefersTo w ns a b → ⊥
    no_elements h q =
        let o = elements_refer_only w (term_of ns a) (term_of ns b) (term_of ns e.from) (term_of ns e.to) p.alike apart low q in
        let t : IsTrue (is_reference (term_of ns e.from) && is_reference (term_of ns e.to)) = true_both (is_reference (term_of ns e.from)) (is_reference (term_of ns e.to)) o.0 o.1.0 in
        let f : ⊥ = cc in
        f

-- ---- boxed values

module _ (w : Hierarchy) (s t : SigType) (other : t ≡ object → ⊥) where
  -- by its interfaces
  pub boxed_led : IsLedTo w s t → Assignable w (boxed s) (ref t)
  boxed_led l = boxed_interface l.listed l.up

  module _ (apart : IsLedTo w s t → ⊥) where
    -- by its parent alone
    pub boxed_by_parent : {p : SigType} → parent w s ≡ Some p → Up w p t ↔ Assignable w (boxed s) (ref t)
    boxed_by_parent {p} e = (λ u. boxed_parent e u, λ a. back a)
      where
        back : Assignable w (boxed s) (ref t) → Up w p t
        back (boxed_object h) = absurd (other h)
        back (boxed_parent {p = q} f r) = subst (λ (x : SigType). Up w x t) (some_same f e) r
        back (boxed_interface {p = q} c r) = absurd (apart (record { by = q; listed = c; up = r }))

    -- without a parent by nothing
    pub boxed_by_none : parent w s ≡ None → Assignable w (boxed s) (ref t) → ⊥
    boxed_by_none e (boxed_object h) = other h
    boxed_by_none e (boxed_parent f r) = none_some e f
    boxed_by_none e (boxed_interface {p = q} c r) = apart (record { by = q; listed = c; up = r })

-- ---- kinds that never fit

-- of unequal types, a reference or boxed value alone may stand for a reference
abbrev pub IsReferable : Stack → Type 0
IsReferable null = Unit {0}
IsReferable (ref t) = Unit {0}
IsReferable (boxed t) = Unit {0}
IsReferable i4 = ⊥
IsReferable i8 = ⊥
IsReferable native = ⊥
IsReferable float = ⊥
IsReferable (val t) = ⊥
IsReferable (ptr t) = ⊥
IsReferable bad = ⊥

pub refers_kind : (w : Hierarchy) {s : Stack} {t : SigType} → Assignable w s (ref t) → IsReferable s
refers_kind w (same h) = tt
refers_kind w null_ref = tt
refers_kind w (ref_object e) = tt
refers_kind w (boxed_object e) = tt
refers_kind w (ref_up u) = tt
refers_kind w (boxed_parent e u) = tt
refers_kind w (boxed_interface c u) = tt
refers_kind w (by_elements x p q r) = tt
refers_kind w (by_reduced x e) = tt

-- to a boxed value only null, and to any other but a reference nothing
pub boxed_kind : (w : Hierarchy) {s : Stack} {t : SigType} → (s ≡ boxed t → ⊥) → Assignable w s (boxed t) → s ≡ null
boxed_kind w apart (same h) = absurd (apart refl)
boxed_kind w apart null_boxed = refl

abbrev pub IsAlone : Stack → Type 0
IsAlone (ref t) = ⊥
IsAlone (boxed t) = ⊥
IsAlone null = Unit {0}
IsAlone i4 = Unit {0}
IsAlone i8 = Unit {0}
IsAlone native = Unit {0}
IsAlone float = Unit {0}
IsAlone (val t) = Unit {0}
IsAlone (ptr t) = Unit {0}
IsAlone bad = Unit {0}

pub alone_same : (w : Hierarchy) {s t : Stack} → IsAlone t → (s ≡ t → ⊥) → Assignable w s t → ⊥
alone_same w h apart (same e) = apart refl
alone_same w h apart null_ref = h
alone_same w h apart null_boxed = h
alone_same w h apart (ref_object e) = h
alone_same w h apart (boxed_object e) = h
alone_same w h apart (ref_up u) = h
alone_same w h apart (boxed_parent e u) = h
alone_same w h apart (boxed_interface c u) = h
alone_same w h apart (by_elements x p q r) = h
alone_same w h apart (by_reduced x e) = h

bad_fits : (w : Hierarchy) {s t : Stack} → Assignable w s t → s ≡ t → s ≡ bad → ⊥
bad_fits w (same h) e f = h f
bad_fits w null_ref e f = let q : ⊥ = cc in q
bad_fits w null_boxed e f = let q : ⊥ = cc in q
bad_fits w (ref_object k) e f = let q : ⊥ = cc in q
bad_fits w (boxed_object k) e f = let q : ⊥ = cc in q
bad_fits w (ref_up u) e f = let q : ⊥ = cc in q
bad_fits w (boxed_parent k u) e f = let q : ⊥ = cc in q
bad_fits w (boxed_interface c u) e f = let q : ⊥ = cc in q
bad_fits w (by_elements x p r k) e f = let q : ⊥ = cc in q
bad_fits w (by_reduced x k) e f = let q : ⊥ = cc in q

-- equal types
pub equal_fits : (w : Hierarchy) (s t : Stack) (r : Bool) → s ≡ t → (IsTrue r ↔ (s ≡ bad → ⊥)) → IsTrue r ↔ Assignable w s t
equal_fits w s t r e h = subst (λ (x : Stack). IsTrue r ↔ Assignable w s x) e (λ q. same (h.0 q), λ a. h.1 (bad_fits w a refl))

-- ---- Object

layer_object : (l : SigType-F Owner SigType) → layer_primitive l ≡ Some prim.Object → l ≡ Prim prim.Object
layer_object (Prim p) e = ap Prim (cc)
layer_object (Class n) e = absurd (none_some refl e)
layer_object (Value n) e = absurd (none_some refl e)
layer_object (Inst v n args) e = absurd (none_some refl e)
layer_object (Var n) e = absurd (none_some refl e)
layer_object (MVar n) e = absurd (none_some refl e)
layer_object (SzArray of) e = absurd (none_some refl e)
layer_object (Array of r s l) e = absurd (none_some refl e)
layer_object (ByRef of) e = absurd (none_some refl e)
layer_object (Pointer of) e = absurd (none_some refl e)
layer_object (Mod r by of) e = absurd (none_some refl e)
layer_object (Pinned of) e = absurd (none_some refl e)

pub object_is : (t : SigType) → primitive t ≡ Some prim.Object → t ≡ object
unfolding primitive
object_is t e = same_layer t object (layer_object (out-SigType t) e ∙ sym (type.outs-Prim prim.Object))

pub object_primitive : (t : SigType) → t ≡ object → primitive t ≡ Some prim.Object
unfolding primitive
object_primitive t e = ap primitive e ∙ ap layer_primitive (type.outs-Prim prim.Object)

-- as the pool grows
pub up_kept : (w : Hierarchy) (ns ms : List Node) (a b : ℕ) → Extends ns ms → a < length ns → b < length ns → IsObjectOrUp w (term_of ms a) (term_of ms b) ↔ IsObjectOrUp w (term_of ns a) (term_of ns b)
up_kept w ns ms a b x p q =
    let e : term_of ms a ≡ term_of ns a = x.terms a p in
    let f : term_of ms b ≡ term_of ns b = x.terms b q in (
      λ u. subst (λ (t : SigType). IsObjectOrUp w (term_of ns a) t) f (subst (λ (s : SigType). IsObjectOrUp w s (term_of ms b)) e u),
      λ u. subst (λ (t : SigType). IsObjectOrUp w (term_of ms a) t) (sym f) (subst (λ (s : SigType). IsObjectOrUp w s (term_of ns b)) (sym e) u),
    )
