-- The words of a number, and the rest, give it back.
use Rattle.std.proofs.Common.{◌≡◌, ℕ, zero, suc, inl, inr, ◌+◌, ◌%◌, ◌<◌, min, max, cond, nat_eq, List, [], ◌∷◌, fold, filter, refl, ap, sym, subst, ◌∙◌, arith}
use Rattle.std.proofs.lemmas.Bool.{cases_Bool, eqb-true}
use Rattle.std.proofs.lemmas.Nat.Bits.{same_from_bits, bit_at_and, bit_at_or, bit_at_xor, bit_at-zero, bit_at-lt}
use Rattle.std.specs.Int.{bit_at}
use Rattle.std.specs.Prelude.{bit_and, bit_or, bit_xor}
use Rattle.listing_model.specs.Flags.{FlagWord, holds, said, said_bits, without_bits, rest_of, told}
use Rattle.listing_model.specs.Laws.{FlagsAreTold}

zero_one : (a : ℕ) → a ≡ 0 → a ≡ 1 → ⊥
zero_one a h k = omega arith

-- one bit of what a word makes of the bits before it
within : (k g v acc : ℕ) → k < 2 → g < 2 → acc < 2 → min k g ≡ v → g ≡ 1 → max ((acc + min acc g) % 2) v ≡ k
within k g v acc a b c e one = omega arith

outside : (k g v acc : ℕ) → k < 2 → acc < 2 → min k g ≡ v → g ≡ 0 → max ((acc + min acc g) % 2) v ≡ acc
outside k g v acc a c e none = omega arith

module _ (k i : ℕ) where
  new_bit : (x : FlagWord) (acc : ℕ) → bit_at (bit_or (without_bits x.group acc) x.value) i
      ≡ max ((bit_at acc i + min (bit_at acc i) (bit_at x.group i)) % 2) (bit_at x.value i)
  new_bit x acc =
      bit_at_or (bit_xor acc (bit_and acc x.group)) x.value i
      ∙ ap (λ b. max b (bit_at x.value i)) (bit_at_xor acc (bit_and acc x.group) i ∙ ap (λ b. (bit_at acc i + b) % 2) (bit_at_and acc x.group i))

  value_bit : (x : FlagWord) → bit_and k x.group ≡ x.value → min (bit_at k i) (bit_at x.group i) ≡ bit_at x.value i
  value_bit x h = sym (bit_at_and k x.group i) ∙ ap (λ n. bit_at n i) h

  -- in the end the bits of the groups are those of the number; where no group has the bit, it is as before
  record Ends (m acc bits flags : ℕ) : Type 0 where
    same : bit_at bits i ≡ 1 → bit_at flags i ≡ bit_at k i
    kept : bit_at bits i ≡ 0 → (bit_at flags i ≡ bit_at acc i) × (bit_at m i ≡ 0)

  bit_cases : (n : ℕ) → n < 2 → (P : Type 0) → (n ≡ 0 → P) → (n ≡ 1 → P) → P
  bit_cases zero h P a b = a refl
  bit_cases (suc zero) h P a b = b refl
  bit_cases (suc (suc n)) h P a b = absurd (omega arith)

  one_step : (x : FlagWord) (m acc : ℕ) → bit_and k x.group ≡ x.value → (bit_at m i ≡ 1 → bit_at acc i ≡ bit_at k i) →
      bit_at (bit_or m x.group) i ≡ 1 → bit_at (bit_or (without_bits x.group acc) x.value) i ≡ bit_at k i
  one_step x m acc h so one =
      bit_cases (bit_at x.group i) (bit_at-lt x.group i) (bit_at (bit_or (without_bits x.group acc) x.value) i ≡ bit_at k i)
      (λ none.
      let or_is : bit_at (bit_or m x.group) i ≡ max (bit_at m i) (bit_at x.group i) = bit_at_or m x.group i in
      let m_one : bit_at m i ≡ 1 = omega arith in
      new_bit x acc
      ∙ (outside (bit_at k i) (bit_at x.group i) (bit_at x.value i) (bit_at acc i) (bit_at-lt k i) (bit_at-lt acc i) (value_bit x h) none
      ∙ so m_one))
      (λ one_g.
      new_bit x acc
      ∙ within (bit_at k i) (bit_at x.group i) (bit_at x.value i) (bit_at acc i) (bit_at-lt k i) (bit_at-lt x.group i) (bit_at-lt acc i)
      (value_bit x h) one_g)

  kept_step : (x : FlagWord) (m acc flags : ℕ) → bit_and k x.group ≡ x.value →
      (bit_at flags i ≡ bit_at (bit_or (without_bits x.group acc) x.value) i) × (bit_at (bit_or m x.group) i ≡ 0) →
      (bit_at flags i ≡ bit_at acc i) × (bit_at m i ≡ 0)
  kept_step x m acc flags h both =
      let or_is : bit_at (bit_or m x.group) i ≡ max (bit_at m i) (bit_at x.group i) = bit_at_or m x.group i in
      let none : bit_at (bit_or m x.group) i ≡ 0 = both.1 in
      let g_none : bit_at x.group i ≡ 0 = omega arith in
      let m_none : bit_at m i ≡ 0 = omega arith in (
        both.0 ∙ (new_bit x acc
            ∙ outside (bit_at k i) (bit_at x.group i) (bit_at x.value i) (bit_at acc i) (bit_at-lt k i) (bit_at-lt acc i) (value_bit x h) g_none),
        m_none,
      )

  ends : (xs : List FlagWord) (m acc : ℕ) → (bit_at m i ≡ 1 → bit_at acc i ≡ bit_at k i) →
      Ends m acc (fold (λ bits x. bit_or bits x.group) m (filter (holds k) xs))
      (fold (λ flags x. bit_or (without_bits x.group flags) x.value) acc (filter (holds k) xs))
  ends [] m acc so = record { same = so; kept = λ none. (refl, none) }
  ends (x ∷ xs) m acc so =
      elim (cases_Bool (nat_eq (bit_and k x.group) x.value)) [
        | inl e ↦
            let h : bit_and k x.group ≡ x.value = eqb-true (bit_and k x.group) x.value e in
            let rest = ends xs (bit_or m x.group) (bit_or (without_bits x.group acc) x.value) (one_step x m acc h so) in
            subst (λ b. Ends m acc (fold (λ bits x. bit_or bits x.group) m (cond b (x ∷ filter (holds k) xs) (filter (holds k) xs)))
            (fold (λ flags x. bit_or (without_bits x.group flags) x.value) acc (cond b (x ∷ filter (holds k) xs) (filter (holds k) xs)))) (sym e)
            (record { same = rest.same; kept = λ none. kept_step x m acc _ h (rest.kept none) })
        | inr e ↦
            subst (λ b. Ends m acc (fold (λ bits x. bit_or bits x.group) m (cond b (x ∷ filter (holds k) xs) (filter (holds k) xs)))
            (fold (λ flags x. bit_or (without_bits x.group flags) x.value) acc (cond b (x ∷ filter (holds k) xs) (filter (holds k) xs)))) (sym e)
            (ends xs m acc so)
      ]

both_one : (k m f : ℕ) → k < 2 → m ≡ 1 → f ≡ k → max f ((k + min k m) % 2) ≡ k
both_one k m f a b c = omega arith

both_none : (k m f : ℕ) → k < 2 → m ≡ 0 → f ≡ 0 → max f ((k + min k m) % 2) ≡ k
both_none k m f a b c = omega arith

bit_is : (words : List FlagWord) (k i : ℕ) → bit_at (bit_or (told (said words k)) (rest_of words k)) i ≡ bit_at k i
bit_is words k i =
    let end = ends k i words 0 0 (λ one. absurd (zero_one (bit_at 0 i) (bit_at-zero i) one)) in
    bit_at_or (told (said words k)) (rest_of words k) i
    ∙ (ap (λ b. max (bit_at (told (said words k)) i) b)
    (bit_at_xor k (bit_and k (said_bits words k)) i ∙ ap (λ b. (bit_at k i + b) % 2) (bit_at_and k (said_bits words k) i))
    ∙ bit_cases k i (bit_at (said_bits words k) i) (bit_at-lt (said_bits words k) i)
    (max (bit_at (told (said words k)) i) ((bit_at k i + min (bit_at k i) (bit_at (said_bits words k) i)) % 2) ≡ bit_at k i)
    (λ none. both_none (bit_at k i) (bit_at (said_bits words k) i) (bit_at (told (said words k)) i) (bit_at-lt k i) none
    ((end.kept none).0 ∙ bit_at-zero i))
    (λ one. both_one (bit_at k i) (bit_at (said_bits words k) i) (bit_at (told (said words k)) i) (bit_at-lt k i) one (end.same one)))

pub flags_are_told : FlagsAreTold
flags_are_told words k = same_from_bits (bit_or (told (said words k)) (rest_of words k)) k (bit_is words k)
