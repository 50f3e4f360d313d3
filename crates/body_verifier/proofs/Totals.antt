-- Sums over the first numbers.
use Rattle.std.proofs.Common.{◌≡◌, ◌≢◌, ◌⊎◌, inl, inr, refl, sym, ◌∙◌, ap, subst, ℕ, zero, suc, ◌+◌, ◌*◌, ◌<◌, ◌≤◌, arith, Bool, true, false, List, [], ◌∷◌, ◌++◌, length}
use Rattle.std.specs.List.{sum_by}
use Rattle.std.specs.Prelude.{if◌then◌else◌, nat_eq, ◌||◌}
use Rattle.std.proofs.Common.{eq-eqb}
use Rattle.std.proofs.lemmas.List.Folds.{list_any-append}
use Rattle.std.proofs.lemmas.Bool.{cases_eq, cases_lt}
use Rattle.std.proofs.lemmas.List.Sums.{sum_by-append}
use Rattle.std.proofs.Math.Nat.{mul-le-mul_right}
use Rattle.body_verifier.specs.Potential.{total}
use Rattle.stack_states.specs.Waiting.{Waiting, has, pushed}

pub total_same : (f g : ℕ → ℕ) (n : ℕ) → ((k : ℕ) → k < n → f k ≡ g k) → total f n ≡ total g n
unfolding total
total_same f g zero h = refl
total_same f g (suc n) h = let a = total_same f g n (λ k below. h k (omega arith)) in let b = h n (omega arith) in omega arith

pub total_at_most : (f g : ℕ → ℕ) (n : ℕ) → ((k : ℕ) → k < n → f k ≤ g k) → total f n ≤ total g n
unfolding total
total_at_most f g zero h = omega arith
total_at_most f g (suc n) h = let a = total_at_most f g n (λ k below. h k (omega arith)) in let b = h n (omega arith) in omega arith

-- where two functions differ at one number alone
pub total_but : (f g : ℕ → ℕ) (n t : ℕ) → t < n → ((k : ℕ) → k ≢ t → f k ≡ g k) → total f n + g t ≡ total g n + f t
unfolding total
total_but f g zero t below h = absurd (omega arith)
total_but f g (suc n) t below h = elim (cases_eq t n) [
  | inl is ↦
      let a : total f n ≡ total g n = total_same f g n (λ k less. h k (let ne : k ≢ t = omega arith in ne)) in
      let b : g t ≡ g n = ap g is in
      let d : f t ≡ f n = ap f is in
      omega arith
  | inr ne ↦
      let a = total_but f g n t (omega arith) h in
      let b = h n (λ e. ne (sym e)) in
      omega arith
]

pub total_part : (f : ℕ → ℕ) (n k : ℕ) → k < n → f k ≤ total f n
unfolding total
total_part f zero k below = absurd (omega arith)
total_part f (suc n) k below = elim (cases_eq k n) [
  | inl is ↦ let e : f k ≡ f n = ap f is in omega arith
  | inr ne ↦ let a = total_part f n k (omega arith) in omega arith
]

pub total_times : (f : ℕ → ℕ) (m n : ℕ) → total (λ k. m * f k) n ≡ m * total f n
unfolding total
total_times f m zero = omega arith
total_times f m (suc n) = let a = total_times f m n in omega arith

-- ---- products

-- where one factor falls, and the others stay
pub products_fall : (v u c : ℕ → ℕ) (n t : ℕ) → t < n → u t < v t → ((k : ℕ) → k ≢ t → u k ≡ v k) → total (λ k. u k * c k) n + c t ≤ total (λ k. v k * c k) n
products_fall v u c n t below less other =
    let sum = total_but (λ k. u k * c k) (λ k. v k * c k) n t below (λ k ne. ap (λ m. m * c k) (other k ne)) in
    let once : (u t + 1) * c t ≤ v t * c t = mul-le-mul_right (c t) (omega arith) in
    omega arith

sum_if : (c : ℕ → ℕ) (xs : List ℕ) (t : ℕ) (b : Bool) → sum_by c (if b then xs else xs ++ t ∷ []) ≤ sum_by c xs + c t
sum_if c xs t true = omega arith
sum_if c xs t false = let e = sum_by-append c xs (t ∷ []) in omega arith

numbers_if : (w : Waiting) (t : ℕ) (b : Bool) → (if b then w else record w { numbers = w.numbers ++ t ∷ [] }).numbers ≡ (if b then w.numbers else w.numbers ++ t ∷ [])
numbers_if w t true = refl
numbers_if w t false = refl

pub sum_pushed : (c : ℕ → ℕ) (w : Waiting) (t : ℕ) → sum_by c (pushed w t).numbers ≤ sum_by c w.numbers + c t
sum_pushed c w t =
    let P : List ℕ → Type 0 = λ (xs : List ℕ). sum_by c xs ≤ sum_by c w.numbers + c t in
    subst P (sym (numbers_if w t (has w.numbers t))) (sum_if c w.numbers t (has w.numbers t))

-- ---- what waits after a push

or_true : (a b : Bool) → b ≡ true → (a || b) ≡ true
or_true true b h = refl
or_true false b h = h

or_first : (a b : Bool) → a ≡ true → (a || b) ≡ true
or_first true b h = refl
or_first false b h = cc

has_more : (xs : List ℕ) (t i : ℕ) → has xs i ≡ true → has (xs ++ t ∷ []) i ≡ true
has_more xs t i h = rw (list_any-append (nat_eq i) xs (t ∷ [])) (or_first (has xs i) (has (t ∷ []) i) h)

has_last : (xs : List ℕ) (t : ℕ) → has (xs ++ t ∷ []) t ≡ true
has_last xs t = rw (list_any-append (nat_eq t) xs (t ∷ [])) (or_true (has xs t) (nat_eq t t || false) (or_first (nat_eq t t) false (eq-eqb t t refl)))

kept_if : (w : Waiting) (t i : ℕ) (b : Bool) → has w.numbers i ≡ true → has (if b then w else record w { numbers = w.numbers ++ t ∷ [] }).numbers i ≡ true
kept_if w t i true h = h
kept_if w t i false h = has_more w.numbers t i h

pub still_waits : (w : Waiting) (t i : ℕ) → has w.numbers i ≡ true → has (pushed w t).numbers i ≡ true
still_waits w t i h = kept_if w t i (has w.numbers t) h

waits_if : (w : Waiting) (t : ℕ) (b : Bool) → has w.numbers t ≡ b → has (if b then w else record w { numbers = w.numbers ++ t ∷ [] }).numbers t ≡ true
waits_if w t true h = h
waits_if w t false h = has_last w.numbers t

pub waits_now : (w : Waiting) (t : ℕ) → has (pushed w t).numbers t ≡ true
waits_now w t = waits_if w t (has w.numbers t) refl

count_if : (w : Waiting) (t : ℕ) (b : Bool) → (if b then w else record w { numbers = w.numbers ++ t ∷ [] }).count ≡ w.count
count_if w t true = refl
count_if w t false = refl

pub same_count : (w : Waiting) (t : ℕ) → (pushed w t).count ≡ w.count
same_count w t = count_if w t (has w.numbers t)
