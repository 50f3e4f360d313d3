-- Two lists of owners with the same members weigh the same, where none stands twice in either.
use Rattle.std.proofs.Common.{◌≡◌, ℕ, ◌+◌, ◌⊎◌, inl, inr, List, [], ◌∷◌, refl, sym, ◌∙◌, ap, subst, arith}
use Rattle.std.specs.Prelude.{sum_by}
use Rattle.std.proofs.lemmas.List.Sums.{sum_by-cons}

-- members by recursion
abbrev pub IsIn : {X : Type 0} → X → List X → Type 0
IsIn x [] = ⊥
IsIn x (y ∷ ys) = (y ≡ x) ⊎ IsIn x ys

-- none stands twice
abbrev pub EachOnce : {X : Type 0} → List X → Type 0
EachOnce [] = Unit {0}
EachOnce (x ∷ xs) = (IsIn x xs → ⊥) × EachOnce xs

module _ {X : Type 0} (f : X → ℕ) where
  -- the list without a member
  abbrev Without : X → List X → Type 0
  Without x ys = (rest : List X) × (sum_by f ys ≡ f x + sum_by f rest) × ((z : X) → IsIn z rest → IsIn z ys) × ((z : X) → IsIn z ys → (z ≡ x) ⊎ IsIn z rest) × (EachOnce ys → EachOnce rest × (IsIn x rest → ⊥))

  behind_first : (x y z : X) (ys : List X) → y ≡ x → IsIn z (y ∷ ys) → (z ≡ x) ⊎ IsIn z ys
  behind_first x y z ys e (inl g) = inl (sym g ∙ e)
  behind_first x y z ys e (inr m) = inr m

  kept : (y z : X) (rest ys : List X) → (IsIn z rest → IsIn z ys) → IsIn z (y ∷ rest) → IsIn z (y ∷ ys)
  kept y z rest ys go (inl g) = inl g
  kept y z rest ys go (inr m) = inr (go m)

  later : (x y z : X) (rest : List X) → (z ≡ x) ⊎ IsIn z rest → (z ≡ x) ⊎ IsIn z (y ∷ rest)
  later x y z rest (inl e) = inl e
  later x y z rest (inr k) = inr (inr k)

  behind : (x y z : X) (rest ys : List X) → (IsIn z ys → (z ≡ x) ⊎ IsIn z rest) → IsIn z (y ∷ ys) → (z ≡ x) ⊎ IsIn z (y ∷ rest)
  behind x y z rest ys go (inl g) = inr (inl g)
  behind x y z rest ys go (inr m) = later x y z rest (go m)

  gone : (x y : X) (rest ys : List X) → IsIn x ys → EachOnce (y ∷ ys) → (IsIn x rest → ⊥) → IsIn x (y ∷ rest) → ⊥
  gone x y rest ys h once none (inl g) = once.0 (subst (λ (z : X). IsIn z ys) (sym g) h)
  gone x y rest ys h once none (inr m) = none m

  without : (x : X) (ys : List X) → IsIn x ys → Without x ys
  without x [] h = absurd h
  without x (y ∷ ys) (inl e) = (
    ys,
    sum_by-cons f y ys ∙ ap (λ (z : X). f z + sum_by f ys) e,
    λ z m. inr m,
    λ z m. behind_first x y z ys e m,
    λ once. (once.1, λ m. once.0 (subst (λ (z : X). IsIn z ys) (sym e) m)),
  )
  without x (y ∷ ys) (inr h) =
      let w = without x ys h in (
        y ∷ w.0,
        (let a = sum_by-cons f y ys in let b = sum_by-cons f y w.0 in let c = w.1 in omega arith),
        λ z m. kept y z w.0 ys (w.2 z) m,
        λ z m. behind x y z w.0 ys (w.3 z) m,
        λ once. (((λ m. once.0 (w.2 y m)), (w.4 once.1).0), gone x y w.0 ys h once (w.4 once.1).1),
      )

  none_in : (xs : List X) → ((z : X) → IsIn z xs → ⊥) → sum_by f xs ≡ 0
  none_in [] h = refl
  none_in (x ∷ xs) h = absurd (h x (inl refl))

  ahead : (x z : X) (rest xs : List X) → (IsIn x xs → ⊥) → IsIn z xs → (z ≡ x) ⊎ IsIn z rest → IsIn z rest
  ahead x z rest xs none m (inl e) = absurd (none (subst (λ (y : X). IsIn y xs) e m))
  ahead x z rest xs none m (inr k) = k

  back : (x z : X) (rest xs : List X) → IsIn z rest → (IsIn x rest → ⊥) → IsIn z (x ∷ xs) → IsIn z xs
  back x z rest xs k none (inl e) = absurd (none (subst (λ (y : X). IsIn y rest) (sym e) k))
  back x z rest xs k none (inr m) = m

  pub same_members : (xs ys : List X) → EachOnce xs → EachOnce ys → ((z : X) → IsIn z xs → IsIn z ys) → ((z : X) → IsIn z ys → IsIn z xs) → sum_by f xs ≡ sum_by f ys
  same_members [] ys ox oy to from = sym (none_in ys from)
  same_members (x ∷ xs) ys ox oy to from =
      let w = without x ys (to x (inl refl)) in
      let o = w.4 oy in
      let rest = same_members xs w.0 ox.1 o.0 (λ z m. ahead x z w.0 xs ox.0 m (w.3 z (to z (inr m)))) (λ z m. back x z w.0 xs m o.1 (from z (w.2 z m))) in
      let a = sum_by-cons f x xs in let b = w.1 in omega (arith, a, b, rest)
