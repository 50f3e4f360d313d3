-- How many items of a list pass a test, by two of them, or by the only one.
use Rattle.std.proofs.Common.{◌≡◌, ℕ, zero, suc, ◌+◌, ◌<◌, ◌≤◌, Bool, true, false, cond, nat_lt, List, [], ◌∷◌, length, filter, Option, None, Some, inl, inr, refl, ap, sym, subst, ◌∙◌, arith}
use Rattle.std.proofs.lemmas.Bool.{cases_Bool}
use Rattle.std.specs.Prelude.{slice_get}

module _ {X : Type 0} (test : X → Bool) where
  counted : (x : X) (xs : List X) (t : Bool) → test x ≡ t → length (filter test (x ∷ xs)) ≡ cond t (suc (length (filter test xs))) (length (filter test xs))
  counted x xs true e = ap (λ t. length (cond t (x ∷ filter test xs) (filter test xs))) e
  counted x xs false e = ap (λ t. length (cond t (x ∷ filter test xs) (filter test xs))) e

  no_fewer : (x : X) (xs : List X) → length (filter test xs) ≤ length (filter test (x ∷ xs))
  no_fewer x xs = elim (cases_Bool (test x)) [
    | inl e ↦ let n = counted x xs true e in omega arith
    | inr e ↦ let n = counted x xs false e in omega arith
  ]

  pub one_at_least : (xs : List X) (k : ℕ) (x : X) → slice_get xs k ≡ Some x → test x ≡ true → 0 < length (filter test xs)
  one_at_least [] k x at e = absurd cc
  one_at_least (y ∷ xs) zero x at e =
      let same : y ≡ x = cc in let n = counted y xs true (ap test same ∙ e) in omega arith
  one_at_least (y ∷ xs) (suc k) x at e = let rest = one_at_least xs k x at e in let more = no_fewer y xs in omega arith

  pub two_at_least : (xs : List X) (j k : ℕ) (x y : X) → slice_get xs j ≡ Some x → test x ≡ true → slice_get xs k ≡ Some y → test y ≡ true → j < k → 1 < length (filter test xs)
  two_at_least [] j k x y at e bt f less = absurd cc
  two_at_least (z ∷ xs) zero zero x y at e bt f less = absurd (omega arith)
  two_at_least (z ∷ xs) zero (suc k) x y at e bt f less =
      let same : z ≡ x = cc in
      let n = counted z xs true (ap test same ∙ e) in
      let rest = one_at_least xs k y bt f in omega arith
  two_at_least (z ∷ xs) (suc j) zero x y at e bt f less = absurd (omega arith)
  two_at_least (z ∷ xs) (suc j) (suc k) x y at e bt f less =
      let rest = two_at_least xs j k x y at e bt f (omega arith) in let more = no_fewer z xs in omega arith

  pub none_at_all : (xs : List X) → ((k : ℕ) (x : X) → slice_get xs k ≡ Some x → test x ≡ true → ⊥) → length (filter test xs) ≡ 0
  none_at_all [] h = refl
  none_at_all (x ∷ xs) h = elim (cases_Bool (test x)) [
    | inl e ↦ absurd (h zero x refl e)
    | inr e ↦ let rest = none_at_all xs (λ k y at f. h (suc k) y at f) in counted x xs false e ∙ rest
  ]

  pub one_at_most : (xs : List X) (k : ℕ) → ((j : ℕ) (x : X) → slice_get xs j ≡ Some x → test x ≡ true → j ≡ k) → length (filter test xs) ≤ 1
  one_at_most [] k h = omega arith
  one_at_most (x ∷ xs) zero h =
      let rest = none_at_all xs (λ j y at f. let e = h (suc j) y at f in omega arith) in
      elim (cases_Bool (test x)) [
        | inl e ↦ let n = counted x xs true e in omega arith
        | inr e ↦ let n = counted x xs false e in omega arith
      ]
  one_at_most (x ∷ xs) (suc k) h =
      let rest = one_at_most xs k (λ j y at f. let e = h (suc j) y at f in omega arith) in
      elim (cases_Bool (test x)) [
        | inl e ↦ let z = h zero x refl e in absurd (omega arith)
        | inr e ↦ let n = counted x xs false e in omega arith
      ]
