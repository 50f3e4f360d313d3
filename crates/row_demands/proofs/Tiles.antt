-- Runs whose beginnings rise tile the members from the first beginning on.
use Rattle.std.proofs.Common.{◌≡◌, ℕ, zero, suc, ◌+◌, ◌-◌, ◌<◌, ◌≤◌, ◌⊎◌, List, [], length, get_or, true, false, Bool, IsTrue, arith, refl, sym, ◌∙◌, ap, subst, inl, inr}
use Rattle.std.specs.Prelude.{◌↔◌, ◌==◌, if◌then◌else◌, Contains}
use Rattle.std.specs.List.{range_with_len}
use Rattle.std.proofs.lemmas.Bool.{cases_lt, ne_eqb, eq-eqb, leb-true, le-leb}
use lib.Dec.{leb}
use Rattle.std.proofs.lemmas.List.FromFn.{length-range_with_len, get_or-range_with_len}

-- ---- what a range of numbers contains

pub range_contains : (a b k : ℕ) → Contains (range_with_len a (b - a)) k → (a ≤ k) × (k < b)
range_contains a b k (i, less, e) =
    let l : length (range_with_len a (b - a)) ≡ b - a = length-range_with_len a (b - a) in
    let below : i < b - a = omega arith in
    let at : get_or (range_with_len a (b - a)) i k ≡ a + i = get_or-range_with_len a (b - a) i k below in
    let same : k ≡ a + i = sym e ∙ at in
    (omega arith, omega arith)

pub contains_range : (a b k : ℕ) → a ≤ k → k < b → Contains (range_with_len a (b - a)) k
contains_range a b k from less =
    let l : length (range_with_len a (b - a)) ≡ b - a = length-range_with_len a (b - a) in
    let below : k - a < b - a = omega arith in
    (k - a, omega arith, get_or-range_with_len a (b - a) (k - a) k below ∙ (omega arith))

-- ---- `f` tells where the run of each of n owners begins; there are m members

abbrev pub ends : (ℕ → ℕ) → (n m owner : ℕ) → ℕ
ends f n m owner = if owner == n then m + 1 else f (owner + 1)

pub ends_last : (f : ℕ → ℕ) (n m : ℕ) → ends f n m n ≡ m + 1
ends_last f n m = ap (λ b. if b then m + 1 else f (n + 1)) (eq-eqb n n refl)

pub ends_before : (f : ℕ → ℕ) (n m k : ℕ) → k < n → ends f n m k ≡ f (k + 1)
ends_before f n m k less = ap (λ b. if b then m + 1 else f (k + 1)) (ne_eqb k n (λ e. absurd (omega arith)))

-- the last owner up to n whose run begins no later than a member, and the next one begins behind it
last_before : (f : ℕ → ℕ) (n p : ℕ) → 0 < n → f 1 ≤ p → (k : ℕ) × (0 < k) × (k ≤ n) × (f k ≤ p) × (k < n → p < f (k + 1))
last_before f zero p some first = absurd (omega arith)
last_before f (suc zero) p some first = (1, omega arith, omega arith, first, λ less. absurd (omega arith))
last_before f (suc (suc n)) p some first =
    let (k, from, upto, begins, next) = last_before f (suc n) p (omega arith) first in
    elim (cases_lt p (f (suc (suc n)))) [
      | inl less ↦ (k, from, omega arith, begins, λ below. go k n p f upto next less below)
      | inr le ↦ (suc (suc n), omega arith, omega arith, le, λ less. absurd (omega arith))
    ]
  where
    go : (k n p : ℕ) (f : ℕ → ℕ) → k ≤ suc n → (k < suc n → p < f (k + 1)) → p < f (suc (suc n)) → k < suc (suc n) → p < f (k + 1)
    go k n p f upto next less below = elim (cases_lt k (suc n)) [
      | inl inside ↦ next inside
      | inr last ↦ subst (λ j. p < f j) (omega arith) less
    ]

-- a member lies in the run of an owner
pub tiled : (f : ℕ → ℕ) (n m p : ℕ) → 0 < n → f 1 ≤ p → p ≤ m → (k : ℕ) × (0 < k) × (k ≤ n) × Contains (range_with_len (f k) (ends f n m k - f k)) p
tiled f n m p some first within =
    let (k, from, upto, begins, next) = last_before f n p some first in
    (k, from, upto, contains_range (f k) (ends f n m k) p begins (behind k upto next)) where
      behind : (k : ℕ) → k ≤ n → (k < n → p < f (k + 1)) → p < ends f n m k
      behind k upto next = elim (cases_lt k n) [
        | inl less ↦ subst (λ e. p < e) (sym (ends_before f n m k less)) (next less)
        | inr last ↦ let e : k ≡ n = omega arith in subst (λ j. p < ends f n m j) (sym e) (subst (λ e. p < e) (sym (ends_last f n m)) (omega arith))
      ]

-- beginnings rise
abbrev pub AllRise : (ℕ → ℕ) → ℕ → Type 0
AllRise f n = (k : ℕ) → 0 < k → k ≤ n → 1 < k → f (k - 1) ≤ f k

pub rising : (f : ℕ → ℕ) (n : ℕ) → AllRise f n → (j d : ℕ) → 0 < j → j + d ≤ n → f j ≤ f (j + d)
rising f n rise j zero some upto = let e : j ≡ j + 0 = omega arith in subst (λ k. f j ≤ f k) e (omega arith)
rising f n rise j (suc d) some upto =
    let before = rising f n rise j d some (omega arith) in
    let step = rise (j + suc d) (omega arith) upto (omega arith) in
    let e : j + suc d - 1 ≡ j + d = omega arith in
    let here : f (j + d) ≤ f (j + suc d) = subst (λ k. f k ≤ f (j + suc d)) e step in
    omega arith

pub rises_to : (f : ℕ → ℕ) (n : ℕ) → AllRise f n → (j k : ℕ) → 0 < j → j ≤ k → k ≤ n → f j ≤ f k
rises_to f n rise j k some le upto = let e : j + (k - j) ≡ k = omega arith in subst (λ i. f j ≤ f i) e (rising f n rise j (k - j) some (omega arith))

-- no member of a run stands before the first beginning
pub first_begins : (f : ℕ → ℕ) (n m p k : ℕ) → AllRise f n → 0 < k → k ≤ n → Contains (range_with_len (f k) (ends f n m k - f k)) p → f 1 ≤ p
first_begins f n m p k rise some upto has =
    let r = range_contains (f k) (ends f n m k) p has in
    let t = rises_to f n rise 1 k (omega arith) some upto in omega arith

-- ---- a member and the one before it

-- where a run begins at a member, no run has both
pub parted : (f : ℕ → ℕ) (n m p j k : ℕ) → AllRise f n → 0 < j → j ≤ n → f j ≡ p → 0 < p → 0 < k → k ≤ n
    → Contains (range_with_len (f k) (ends f n m k - f k)) (p - 1) → Contains (range_with_len (f k) (ends f n m k - f k)) p → ⊥
parted f n m p j k rise some upto begins one from to before here =
    let b = range_contains (f k) (ends f n m k) (p - 1) before in
    let h = range_contains (f k) (ends f n m k) p here in
    elim (cases_lt k j) [
      | inl less ↦ let e = ends_before f n m k (omega arith) in let t = rises_to f n rise (k + 1) j (omega arith) (omega arith) upto in absurd (omega arith)
      | inr le ↦ let t = rises_to f n rise j k some le to in absurd (omega arith)
    ]

-- where none begins at it, the run of the one before has it too
pub joined : (f : ℕ → ℕ) (n m p k : ℕ) → ((j : ℕ) → 0 < j → j ≤ n → f j ≡ p → ⊥) → 0 < p → p ≤ m → 0 < k → k ≤ n
    → Contains (range_with_len (f k) (ends f n m k - f k)) (p - 1) → Contains (range_with_len (f k) (ends f n m k - f k)) p
joined f n m p k none one within some upto before =
    let b = range_contains (f k) (ends f n m k) (p - 1) before in
    contains_range (f k) (ends f n m k) p (omega arith) (elim (cases_lt k n) [
      | inl less ↦ let e = ends_before f n m k less in let other = none (k + 1) (omega arith) (omega arith) in behind less e other b.1
      | inr last ↦ let same : k ≡ n = omega arith in subst (λ j. p < ends f n m j) (sym same) (subst (λ e. p < e) (sym (ends_last f n m)) (omega arith))
    ]) where
      behind : k < n → ends f n m k ≡ f (k + 1) → (f (k + 1) ≡ p → ⊥) → p - 1 < ends f n m k → p < ends f n m k
      behind less e other before = elim (cases_lt p (ends f n m k)) [ inl h ↦ h | inr h ↦ absurd (other (omega arith)) ]

pub leb_is : (a b : ℕ) → IsTrue (leb a b) ↔ (a ≤ b)
leb_is a b = (λ yes. leb-true a b yes, λ le. le-leb a b le)
