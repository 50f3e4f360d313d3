-- Lists of parts, one for each row.
use Rattle.std.proofs.Common.{◌≡◌, ℕ, zero, suc, ◌+◌, List, [], ◌∷◌, ◌++◌, sym, ◌∙◌, ap, subst, arith, Result, Ok, Err, IfOk, Some, None}
use Rattle.std.specs.List.{AllZip, range_with_len}
use Rattle.image_model.specs.Reading.{IsGiven}

-- one row more
pub zip_push : {X : Type 0} (Is : ℕ → X → Type 0) (rows : List ℕ) (xs : List X) (r : ℕ) (x : X) → AllZip Is rows xs → Is r x → AllZip Is (rows ++ r ∷ []) (xs ++ x ∷ [])
zip_push Is [] [] r x z h = (h, tt)
zip_push Is [] (y ∷ xs) r x z h = absurd z
zip_push Is (s ∷ rows) [] r x z h = absurd z
zip_push Is (s ∷ rows) (y ∷ xs) r x z h = (z.0, zip_push Is rows xs r x z.1 h)

range_last : (a n : ℕ) → range_with_len a (suc n) ≡ range_with_len a n ++ (a + n) ∷ []
range_last a zero = let e : a ≡ a + 0 = omega arith in ap (λ k. k ∷ []) e
range_last a (suc n) = let e : a + 1 + n ≡ a + suc n = omega arith in ap (λ l. a ∷ l) (range_last (a + 1) n ∙ ap (λ k. range_with_len (a + 1) n ++ k ∷ []) e)

pub range_more : (a n : ℕ) → range_with_len a (n + 1) ≡ range_with_len a n ++ (a + n) ∷ []
range_more a n = let e : n + 1 ≡ suc n = omega arith in ap (range_with_len a) e ∙ range_last a n

-- one row more of those that stand side by side
pub zip_range : {X : Type 0} (Is : ℕ → X → Type 0) (a n : ℕ) (xs : List X) (x : X) → AllZip Is (range_with_len a n) xs → Is (a + n) x → AllZip Is (range_with_len a (n + 1)) (xs ++ x ∷ [])
zip_range Is a n xs x z h = subst (λ rows. AllZip Is rows (xs ++ x ∷ [])) (sym (range_more a n)) (zip_push Is (range_with_len a n) xs (a + n) x z h)

-- what is said of a result's value, where this is the value
pub ok_has : {X E : Type 0} (P : X → Type 0) (r : Result X E) (x : X) → r ≡ Ok x → IfOk r P → P x
ok_has P r x e h = subst (λ s. IfOk s P) e h

-- what follows from what is said of a result's value
pub if_ok : {X E : Type 0} (P Q : X → Type 0) (r : Result X E) → ((x : X) → P x → Q x) → IfOk r P → IfOk r Q
if_ok P Q (Ok x) f h = f x h
if_ok P Q (Err e) f h = tt

-- a result's value, where it equals one of which something is said
pub ok_as : {X E : Type 0} (P : X → Type 0) (r : Result X E) (x : X) → IfOk r (λ y. y ≡ x) → P x → IfOk r P
ok_as P r x h p = if_ok (λ y. y ≡ x) P r (λ y e. subst P (sym e) p) h

-- one row
pub given_row : {X : Type 0} (Is : ℕ → X → Type 0) (first count : ℕ) (x : X) → count ≡ 1 → Is first x → IsGiven Is (range_with_len first count) (Some x)
given_row Is first count x one h = subst (λ n. IsGiven Is (range_with_len first n) (Some x)) (sym one) h

pub given_none : {X : Type 0} (Is : ℕ → X → Type 0) (first count : ℕ) → count ≡ 0 → IsGiven Is (range_with_len first count) None
given_none Is first count none = subst (λ n. IsGiven Is (range_with_len first n) None) (sym none) tt
