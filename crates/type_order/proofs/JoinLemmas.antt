-- Joins by cases.
use Rattle.std.proofs.Common.{◌≡◌, ◌⊎◌, inl, inr, refl, sym, ◌∙◌, subst, None, Some}
use Rattle.type_terms.specs.declared.term.SigType.{SigType}
use Rattle.type_hierarchy.specs.Hierarchy.{Hierarchy, Chain, alone}
use Rattle.type_hierarchy.specs.Stack.{Stack, i4, i8, native, float, null, ref, boxed, val, ptr, bad}
use Rattle.type_hierarchy.specs.Relations.{Below, equal, below_bad, null_below_ref, null_below_boxed, ref_chain, boxed_chain, IsJoin}
use Rattle.type_order.specs.Common.{IsNearest}
use Rattle.type_order.specs.Starts.{start}
use Rattle.type_hierarchy.proofs.Climbing.{none_some}

-- ---- equal types, and null

pub join_equal : (w : Hierarchy) (s t : Stack) → s ≡ t → IsJoin w s t s
join_equal w s t e = record { left = equal; right = subst (λ (x : Stack). Below w x s) e equal; least = λ u p q. p }

pub join_above : (w : Hierarchy) (s t : Stack) → Below w s t → IsJoin w s t t
join_above w s t b = record { left = b; right = equal; least = λ u p q. q }

pub join_under : (w : Hierarchy) (s t : Stack) → Below w t s → IsJoin w s t s
join_under w s t b = record { left = equal; right = b; least = λ u p q. p }

-- ---- two types with reference types above them

pub below_start : (w : Hierarchy) (s : Stack) (a j : SigType) → start w s ≡ Some a → Chain w a j → Below w s (ref j)
below_start w (ref t) a j e c = ref_chain (let same : t ≡ a = cc in subst (λ (x : SigType). Chain w x j) (sym same) c)
below_start w (boxed t) a j e c = boxed_chain e c
below_start w i4 a j e c = absurd (none_some refl e)
below_start w i8 a j e c = absurd (none_some refl e)
below_start w native a j e c = absurd (none_some refl e)
below_start w float a j e c = absurd (none_some refl e)
below_start w null a j e c = absurd (none_some refl e)
below_start w (val t) a j e c = absurd (none_some refl e)
below_start w (ptr t) a j e c = absurd (none_some refl e)
below_start w bad a j e c = absurd (none_some refl e)

-- what `s` is below, where `a` is the first reference type above it
data Found (w : Hierarchy) (s : Stack) (a : SigType) : Stack → Type 0 where
  found_bad : Found w s a bad
  found_boxed : {t : SigType} → s ≡ boxed t → Found w s a (boxed t)
  found_ref : {t : SigType} → Chain w a t → Found w s a (ref t)

some_same : (w : Hierarchy) {a b x : SigType} → Some a ≡ Some b → Chain w a x → Chain w b x
some_same w {a = a} {b = b} {x = x} e c = let same : a ≡ b = cc in subst (λ (y : SigType). Chain w y x) same c

found_equal : (w : Hierarchy) (s : Stack) (a : SigType) → start w s ≡ Some a → Found w s a s
found_equal w (ref t) a e = found_ref (some_same w e alone)
found_equal w (boxed t) a e = found_boxed refl
found_equal w i4 a e = absurd (none_some refl e)
found_equal w i8 a e = absurd (none_some refl e)
found_equal w native a e = absurd (none_some refl e)
found_equal w float a e = absurd (none_some refl e)
found_equal w null a e = absurd (none_some refl e)
found_equal w (val t) a e = absurd (none_some refl e)
found_equal w (ptr t) a e = absurd (none_some refl e)
found_equal w bad a e = absurd (none_some refl e)

found : (w : Hierarchy) {s u : Stack} (a : SigType) → start w s ≡ Some a → Below w s u → Found w s a u
found w {s = s} a e equal = found_equal w s a e
found w a e below_bad = found_bad
found w a e null_below_ref = absurd (none_some refl e)
found w a e null_below_boxed = absurd (none_some refl e)
found w a e (ref_chain c) = found_ref (some_same w e c)
found w a e (boxed_chain f c) = found_ref (some_same w (sym f ∙ e) c)

both : (w : Hierarchy) (s t : Stack) (a b j : SigType) → (s ≡ t → ⊥) → IsNearest w a b j → {u : Stack} → Found w s a u → Found w t b u → Below w (ref j) u
both w s t a b j apart n found_bad g = below_bad
both w s t a b j apart n (found_boxed e) (found_boxed f) = absurd (apart (e ∙ sym f))
both w s t a b j apart n (found_ref c) (found_ref d) = ref_chain (n.least _ c d)

pub join_starts : (w : Hierarchy) (s t : Stack) (a b j : SigType) → (s ≡ t → ⊥) → start w s ≡ Some a → start w t ≡ Some b → IsNearest w a b j → IsJoin w s t (ref j)
join_starts w s t a b j apart e f n = record {
  left = below_start w s a j e n.left;
  right = below_start w t b j f n.right;
  least = λ u p q. both w s t a b j apart n (found w a e p) (found w b f q);
}

-- ---- two types of which one has none above it

abbrev pub IsObjectLike : Stack → Type 0
IsObjectLike (ref t) = Unit {0}
IsObjectLike (boxed t) = Unit {0}
IsObjectLike i4 = ⊥
IsObjectLike i8 = ⊥
IsObjectLike native = ⊥
IsObjectLike float = ⊥
IsObjectLike null = ⊥
IsObjectLike (val t) = ⊥
IsObjectLike (ptr t) = ⊥
IsObjectLike bad = ⊥

-- neither is null with the other a reference or boxed value
pub record NoNull (s t : Stack) : Type 0 where
  pub left : s ≡ null → IsObjectLike t → ⊥
  pub right : t ≡ null → IsObjectLike s → ⊥

-- what equals `s` and is above `t` is Bad
under_left : (w : Hierarchy) {t s : Stack} → (s ≡ t → ⊥) → NoNull s t → (start w s ≡ None) ⊎ (start w t ≡ None) → Below w t s → s ≡ bad
under_left w apart free none equal = absurd (apart refl)
under_left w apart free none below_bad = refl
under_left w apart free none null_below_ref = absurd (free.right refl tt)
under_left w apart free none null_below_boxed = absurd (free.right refl tt)
under_left w apart free none (ref_chain c) = absurd (elim none [ inl h ↦ none_some h refl | inr h ↦ none_some h refl ])
under_left w apart free none (boxed_chain e c) = absurd (elim none [ inl h ↦ none_some h refl | inr h ↦ none_some h e ])

-- what is above null and `t` is Bad
over_null_ref : (w : Hierarchy) {t : Stack} {x : SigType} → (null ≡ t → ⊥) → NoNull null t → Below w t (ref x) → ⊥
over_null_ref w apart free equal = free.left refl tt
over_null_ref w apart free null_below_ref = apart refl
over_null_ref w apart free (ref_chain c) = free.left refl tt
over_null_ref w apart free (boxed_chain e c) = free.left refl tt

over_null_boxed : (w : Hierarchy) {t : Stack} {x : SigType} → (null ≡ t → ⊥) → NoNull null t → Below w t (boxed x) → ⊥
over_null_boxed w apart free equal = free.left refl tt
over_null_boxed w apart free null_below_boxed = apart refl

-- above a type with reference types and one with none
over_start : (w : Hierarchy) {s t : Stack} {x a : SigType} → NoNull s t → IsObjectLike s → start w s ≡ Some a → (start w s ≡ None) ⊎ (start w t ≡ None) → Below w t (ref x) → ⊥
over_start w free like e none equal = elim none [ inl h ↦ none_some h e | inr h ↦ none_some h refl ]
over_start w free like e none null_below_ref = free.right refl like
over_start w free like e none (ref_chain c) = elim none [ inl h ↦ none_some h e | inr h ↦ none_some h refl ]
over_start w free like e none (boxed_chain f c) = elim none [ inl h ↦ none_some h e | inr h ↦ none_some h f ]

over_both : (w : Hierarchy) {s t u : Stack} → (s ≡ t → ⊥) → NoNull s t → (start w s ≡ None) ⊎ (start w t ≡ None) → Below w s u → Below w t u → u ≡ bad
over_both w apart free none equal q = under_left w apart free none q
over_both w apart free none below_bad q = refl
over_both w apart free none null_below_ref q = absurd (over_null_ref w apart free q)
over_both w apart free none null_below_boxed q = absurd (over_null_boxed w apart free q)
over_both w apart free none (ref_chain c) q = absurd (over_start w free tt refl none q)
over_both w apart free none (boxed_chain e c) q = absurd (over_start w free tt e none q)

pub join_bad : (w : Hierarchy) (s t : Stack) → (s ≡ t → ⊥) → NoNull s t → (start w s ≡ None) ⊎ (start w t ≡ None) → IsJoin w s t bad
join_bad w s t apart free none = record {
  left = below_bad;
  right = below_bad;
  least = λ u p q. subst (λ (x : Stack). Below w bad x) (sym (over_both w apart free none p q)) equal;
}
