-- Sums over rows and over what they give.
use Rattle.std.proofs.Common.{◌≡◌, ℕ, suc, ◌+◌, inl, inr, ◌*◌, Bool, true, false, cond, List, [], ◌∷◌, filter, length, refl, sym, ◌∙◌, ap, subst, arith}
use Rattle.std.specs.Prelude.{sum_by, Contains}
use Rattle.std.specs.List.{AllZip}
use Rattle.std.proofs.lemmas.List.Sums.{sum_by-cons}
use Rattle.row_parts.proofs.OwnedRows.{Among}
use Rattle.image_weights.proofs.Alike.{Alike, plus, exactly, as_told, as_weight}
use Rattle.image_weights.proofs.Distinct.{IsIn}

-- where each row weighs what it gives, all weigh what all give
pub zip_sums : {X : Type 0} (Is : ℕ → X → Type 0) (f : ℕ → ℕ) (g : X → ℕ) (rows : List ℕ) (xs : List X) → AllZip Is rows xs
    → ((r : ℕ) (x : X) → Among r rows → Is r x → Alike (f r) (g x)) → Alike (sum_by f rows) (sum_by g xs)
zip_sums Is f g [] [] z each = exactly 0
zip_sums Is f g [] (x ∷ xs) z each = absurd z
zip_sums Is f g (r ∷ rows) [] z each = absurd z
zip_sums Is f g (r ∷ rows) (x ∷ xs) z each =
    as_told (sum_by-cons f r rows)
    (as_weight (plus (each r x (inl refl) z.0) (zip_sums Is f g rows xs z.1 (λ s y m h. each s y (inr m) h))) (sym (sum_by-cons g x xs)))

-- a list and its parts together
pub sum_both : {X : Type 0} (f g : X → ℕ) (xs : List X) → sum_by (λ x. f x + g x) xs ≡ sum_by f xs + sum_by g xs
sum_both f g [] = omega arith
sum_both f g (x ∷ xs) =
    let a = sum_by-cons (λ x. f x + g x) x xs in let b = sum_by-cons f x xs in let c = sum_by-cons g x xs in let d = sum_both f g xs in
    omega arith

pub sum_same : {X : Type 0} (n : ℕ) (xs : List X) → sum_by (λ x. n) xs ≡ n * length xs
sum_same n [] = omega arith
sum_same n (x ∷ xs) = let a = sum_by-cons (λ x. n) x xs in let b = sum_same n xs in omega arith

pub sum_equal : (f g : ℕ → ℕ) (xs : List ℕ) → ((r : ℕ) → Among r xs → f r ≡ g r) → sum_by f xs ≡ sum_by g xs
sum_equal f g [] h = refl
sum_equal f g (x ∷ xs) h =
    let a = sum_by-cons f x xs in let b = sum_by-cons g x xs in let c = sum_equal f g xs (λ r m. h r (inr m)) in let d = h x (inl refl) in
    omega arith

pub zip_lengths : {X : Type 0} (Is : ℕ → X → Type 0) (rows : List ℕ) (xs : List X) → AllZip Is rows xs → length rows ≡ length xs
zip_lengths Is [] [] z = refl
zip_lengths Is [] (x ∷ xs) z = absurd z
zip_lengths Is (r ∷ rows) [] z = absurd z
zip_lengths Is (r ∷ rows) (x ∷ xs) z = ap suc (zip_lengths Is rows xs z.1)

-- ---- rows that pass a test

pub sum_filter : (f : ℕ → ℕ) (test : ℕ → Bool) (xs : List ℕ) → sum_by f (filter test xs) ≡ sum_by (λ x. cond (test x) (f x) 0) xs
sum_filter f test [] = refl
sum_filter f test (x ∷ xs) =
    one (test x) ∙ ap (λ n. cond (test x) (f x) 0 + n) (sum_filter f test xs) ∙ sym (sum_by-cons (λ x. cond (test x) (f x) 0) x xs)
  where
    one : (b : Bool) → sum_by f (cond b (x ∷ filter test xs) (filter test xs)) ≡ cond b (f x) 0 + sum_by f (filter test xs)
    one true = sum_by-cons f x (filter test xs)
    one false = omega arith

-- ---- rows and what they give

pub zipped : {X : Type 0} (Is : ℕ → X → Type 0) (rows : List ℕ) → ((r : ℕ) → Among r rows → (x : X) × Is r x) → (xs : List X) × AllZip Is rows xs
zipped Is [] f = ([], tt)
zipped Is (r ∷ rows) f =
    let x = f r (inl refl) in
    let xs = zipped Is rows (λ s m. f s (inr m)) in
    (x.0 ∷ xs.0, (x.1, xs.1))

pub zip_has : {X : Type 0} (Is : ℕ → X → Type 0) (rows : List ℕ) (xs : List X) (r : ℕ) → AllZip Is rows xs → Among r rows → (x : X) × Is r x × IsIn x xs
zip_has Is [] [] r z m = absurd m
zip_has Is [] (x ∷ xs) r z m = absurd z
zip_has Is (s ∷ rows) [] r z m = absurd z
zip_has Is (s ∷ rows) (x ∷ xs) r z (inl e) = (x, subst (λ (k : ℕ). Is k x) e z.0, inl refl)
zip_has Is (s ∷ rows) (x ∷ xs) r z (inr m) = let h = zip_has Is rows xs r z.1 m in (h.0, h.1, inr h.2)

pub zip_from : {X : Type 0} (Is : ℕ → X → Type 0) (rows : List ℕ) (xs : List X) (x : X) → AllZip Is rows xs → IsIn x xs → (r : ℕ) × Among r rows × Is r x
zip_from Is [] [] x z m = absurd m
zip_from Is [] (p ∷ xs) x z m = absurd z
zip_from Is (s ∷ rows) [] x z m = absurd z
zip_from Is (s ∷ rows) (p ∷ xs) x z (inl e) = (s, inl refl, subst (Is s) e z.0)
zip_from Is (s ∷ rows) (p ∷ xs) x z (inr m) = let h = zip_from Is rows xs x z.1 m in (h.0, inr h.1, h.2)

pub contained : (x : ℕ) (xs : List ℕ) → Among x xs → Contains xs x
contained x [] h = absurd h
contained x (y ∷ ys) (inl e) = (0, omega arith, e)
contained x (y ∷ ys) (inr h) = let c = contained x ys h in (suc c.0, omega (arith, c.1), c.2)
