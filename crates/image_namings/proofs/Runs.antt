-- A member lies in one run alone, where the runs begin in order.
use Rattle.std.proofs.Common.{◌≡◌, ℕ, ◌+◌, ◌-◌, ◌<◌, ◌≤◌, ◌⊎◌, inl, inr, Contains, ap, ◌∙◌, arith}
use Rattle.std.specs.List.{range_with_len}
use Rattle.std.proofs.lemmas.Bool.{cases_lt}
use Rattle.row_demands.proofs.Tiles.{range_contains, ends, ends_before, ends_last, AllRise, rises_to}

compare : (m n : ℕ) → (m < n) ⊎ ((n < m) ⊎ (m ≡ n))
compare m n = grind arith

-- a run ends no later than that of a later row begins
apart : (f : ℕ → ℕ) (n m p j k : ℕ) → AllRise f n → 0 < j → k ≤ n → Contains (range_with_len (f j) (ends f n m j - f j)) p
    → Contains (range_with_len (f k) (ends f n m k - f k)) p → j < k → ⊥
apart f n m p j k rise some upto one other less =
    let a = range_contains (f j) (ends f n m j) p one in
    let b = range_contains (f k) (ends f n m k) p other in
    let e = ends_before f n m j (omega arith) in
    let r = rises_to f n rise (j + 1) k (omega arith) (omega arith) upto in
    omega (arith, a.1, b.0, e, r)

pub one_run : (f : ℕ → ℕ) (n m p j k : ℕ) → AllRise f n → 0 < j → j ≤ n → 0 < k → k ≤ n → Contains (range_with_len (f j) (ends f n m j - f j)) p
    → Contains (range_with_len (f k) (ends f n m k - f k)) p → j ≡ k
one_run f n m p j k rise some upto more most one other = elim (compare j k) [
  | inl lt ↦ absurd (apart f n m p j k rise some most one other lt)
  | inr (inl gt) ↦ absurd (apart f n m p k j rise more upto other one gt)
  | inr (inr e) ↦ e
]

-- runs that begin at members, or behind the last, hold members alone
pub inside : (f : ℕ → ℕ) (n m p k : ℕ) → ((j : ℕ) → 0 < j → j ≤ n → (0 < f j) × (f j ≤ m + 1)) → 0 < k → k ≤ n → Contains (range_with_len (f k) (ends f n m k - f k)) p → (0 < p) × (p ≤ m)
inside f n m p k begins some upto has =
    let r = range_contains (f k) (ends f n m k) p has in
    let b = begins k some upto in (
      omega (arith, r.0, b.0),
      elim (cases_lt k n) [
        | inl less ↦ let e = ends_before f n m k less in let after = begins (k + 1) (omega arith) (omega arith) in omega (arith, r.1, e, after.1)
        | inr last ↦
            let same : k ≡ n = omega arith in
            let e : ends f n m k ≡ m + 1 = ap (λ (j : ℕ). ends f n m j) same ∙ ends_last f n m in
            omega (arith, r.1, e)
      ],
    )
