-- Lists that rise strictly in a total order are equal where they have the same members.
use Rattle.std.proofs.Common.{◌≡◌, ◌∙◌, sym, ap, subst, refl, inl, inr, List, [], ◌∷◌}
use Rattle.std.specs.Cmp.{IsTotalOrder}
use Rattle.std.specs.List.{Contains}
use Rattle.std.specs.List.Sorted.{IsStrictlySortedBy}
use Rattle.std.specs.Ordering.{ordering_reverse}
use Rattle.std.specs.declared.cmp.Ordering.{Ordering}
use Rattle.std.specs.declared.cmp.Ordering.TheVariants.{Less, Greater}
use Rattle.class_model.proofs.Members.{nothing_in, first_in, later_in, first_or_later, holds_in}

module _ {K : Type 0} {R : K → K → Ordering} (o : IsTotalOrder R) where
  never_both : (x y : K) → R x y ≡ Less → R y x ≡ Less → ⊥
  never_both x y a b = let e : Less ≡ Greater = sym a ∙ o.antisymm x y ∙ ap ordering_reverse b in absurd cc

  below : (x : K) (xs : List K) (y : K) → IsStrictlySortedBy R (x ∷ xs) → Contains xs y → R x y ≡ Less
  unfolding IsStrictlySortedBy
  below x xs y s c = holds_in (λ z. R x z ≡ Less) xs y s.0 c

  rest_sorted : (x : K) (xs : List K) → IsStrictlySortedBy R (x ∷ xs) → IsStrictlySortedBy R xs
  unfolding IsStrictlySortedBy
  rest_sorted x xs s = s.1

  heads : (x y : K) (xs ys : List K) → IsStrictlySortedBy R (x ∷ xs) → IsStrictlySortedBy R (y ∷ ys) → Contains (y ∷ ys) x → Contains (x ∷ xs) y → x ≡ y
  heads x y xs ys s u c d = elim (first_or_later y ys x c) [
    | inl e ↦ sym e
    | inr later ↦ elim (first_or_later x xs y d) [
      | inl e ↦ e
      | inr after ↦ absurd (never_both x y (below x xs y s after) (below y ys x u later))
    ]
  ]

  in_rest : (x y : K) (xs ys : List K) → IsStrictlySortedBy R (x ∷ xs) → x ≡ y → ((z : K) → Contains (x ∷ xs) z → Contains (y ∷ ys) z) →
      (z : K) → Contains xs z → Contains ys z
  in_rest x y xs ys s e all z c = elim (first_or_later y ys z (all z (later_in x xs z c))) [
    | inl f ↦
        let less : R x z ≡ Less = below x xs z s c in
        let same : x ≡ z = e ∙ f in
        let at : R z z ≡ Less = subst (λ v. R v z ≡ Less) same less in
        absurd (never_both z z at at)
    | inr d ↦ d
  ]

  pub sorted_same : (xs ys : List K) → IsStrictlySortedBy R xs → IsStrictlySortedBy R ys →
      ((z : K) → Contains xs z → Contains ys z) → ((z : K) → Contains ys z → Contains xs z) → xs ≡ ys
  sorted_same [] [] s u to from = refl
  sorted_same [] (y ∷ ys) s u to from = absurd (nothing_in y (from y (first_in y ys)))
  sorted_same (x ∷ xs) [] s u to from = absurd (nothing_in x (to x (first_in x xs)))
  sorted_same (x ∷ xs) (y ∷ ys) s u to from =
      let e : x ≡ y = heads x y xs ys s u (to x (first_in x xs)) (from y (first_in y ys)) in
      ap (λ z. z ∷ xs) e
      ∙ ap (λ l. y ∷ l) (sorted_same xs ys (rest_sorted x xs s) (rest_sorted y ys u) (in_rest x y xs ys s e to) (in_rest y x ys xs u (sym e) from))
