-- The lowest bits of a number, from its lowest 64.
use Rattle.std.proofs.Common.{◌≡◌, ℕ, ◌+◌, ◌-◌, ◌*◌, ◌/◌, ◌%◌, ◌^◌, ◌<◌, ap, ◌∙◌, refl, arith}
use Rattle.std.specs.Prelude.{ℤ, pos, negsuc}
use Rattle.std.proofs.lemmas.Nat.{mod-pow-add, mod_below, mod_low, pow-add, pow_pos}
use Rattle.source_model.specs.Constants.{wrapped}

module _ (j k : ℕ) where
  low_of_more : (n : ℕ) → n % 2 ^ (j + k) % 2 ^ k ≡ n % 2 ^ k
  low_of_more n =
      ap (λ m. m % 2 ^ k) (mod-pow-add n j k) ∙ mod_low (n / 2 ^ k % 2 ^ j) k (n % 2 ^ k) (mod_below n (2 ^ k) (pow_pos k))

  -- what is left of all bits is what is left of the high ones and of the low ones
  parted : (q r : ℕ) → q < 2 ^ j → r < 2 ^ k → (2 ^ j * 2 ^ k - 1) - (q * 2 ^ k + r) ≡ (2 ^ j - 1 - q) * 2 ^ k + (2 ^ k - 1 - r)
  parted q r a b = go (2 ^ j) (2 ^ k) (2 ^ j - 1 - q) a b refl
    where
      go : (x m d : ℕ) → q < x → r < m → d ≡ x - 1 - q → (x * m - 1) - (q * m + r) ≡ d * m + (m - 1 - r)
      go x m d a b e =
          let whole : x ≡ q + d + 1 = omega (arith, a, e) in
          let all : x * m ≡ q * m + d * m + m = ap (λ y. y * m) whole ∙ grind arith in
          omega (arith, all, b)

  low_of_left : (n : ℕ) → ((2 ^ (j + k) - 1) - n % 2 ^ (j + k)) % 2 ^ k ≡ (2 ^ k - 1) - n % 2 ^ k
  low_of_left n =
      let q = n / 2 ^ k % 2 ^ j in
      let r = n % 2 ^ k in
      let low = mod_below n (2 ^ k) (pow_pos k) in
      let high = mod_below (n / 2 ^ k) (2 ^ j) (pow_pos j) in
      ap (λ m. ((2 ^ (j + k) - 1) - m) % 2 ^ k) (mod-pow-add n j k)
      ∙ ap (λ m. ((m - 1) - (q * 2 ^ k + r)) % 2 ^ k) (pow-add 2 j k)
      ∙ ap (λ m. m % 2 ^ k) (parted q r high low)
      ∙ mod_low (2 ^ j - 1 - q) k (2 ^ k - 1 - r) (omega (arith, low))

  pub wrapped_low : (z : ℤ) → wrapped (j + k) z % 2 ^ k ≡ wrapped k z
  wrapped_low (pos n) = low_of_more n
  wrapped_low (negsuc n) = low_of_left n

pub low_8 : (z : ℤ) (bits : ℕ) → bits ≡ wrapped 64 z → bits % 2 ^ 8 ≡ wrapped 8 z
low_8 z bits e = ap (λ m. m % 2 ^ 8) e ∙ wrapped_low 56 8 z

pub low_16 : (z : ℤ) (bits : ℕ) → bits ≡ wrapped 64 z → bits % 2 ^ 16 ≡ wrapped 16 z
low_16 z bits e = ap (λ m. m % 2 ^ 16) e ∙ wrapped_low 48 16 z

pub low_32 : (z : ℤ) (bits : ℕ) → bits ≡ wrapped 64 z → bits % 2 ^ 32 ≡ wrapped 32 z
low_32 z bits e = ap (λ m. m % 2 ^ 32) e ∙ wrapped_low 32 32 z
