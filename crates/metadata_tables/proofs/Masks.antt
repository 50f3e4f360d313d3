-- The tables that have rows, a bit for each.
use Rattle.std.proofs.Common.{◌≡◌, ℕ, zero, suc, ◌+◌, ◌-◌, ◌*◌, ◌%◌, ◌^◌, ◌<◌, ◌≤◌, refl, sym, ◌∙◌, arith, ◌⊎◌, inl, inr, ⊎_elim, add-one}
use Rattle.std.specs.Prelude.{nat_lt, if◌then◌else◌}
use Rattle.std.specs.Int.{bit_at}
use Rattle.std.proofs.Math.Nat.{pow-suc, add-mul-mod_self_right, mod-eq_of_lt}
use Rattle.std.proofs.lemmas.Bool.{lt-ltb, le-ltb, cases_lt}
use Rattle.std.proofs.lemmas.Nat.{pow_pos, pow-add, mod-pow-add}
use Rattle.std.proofs.lemmas.Nat.Bits.{bit_at-lt, bit_at_above}
use Rattle.metadata_tables.specs.Bytes.{mask_upto}

-- the bit of a table
abbrev pub has : (ℕ → ℕ) → ℕ → ℕ
has f t = if nat_lt 0 (f t) then 1 else 0

pub mask_none : (f : ℕ → ℕ) → mask_upto f 0 ≡ 0
unfolding mask_upto
mask_none f = refl

pub mask_more : (f : ℕ → ℕ) (n : ℕ) → mask_upto f (n + 1) ≡ mask_upto f n + (if nat_lt 0 (f n) then 2 ^ n else 0)
unfolding mask_upto
mask_more f n = rw add-one refl

pub mask_some : (f : ℕ → ℕ) (n : ℕ) → 0 < f n → mask_upto f (n + 1) ≡ mask_upto f n + 2 ^ n
mask_some f n h = let e = lt-ltb 0 (f n) h in mask_more f n ∙ rw e refl

pub mask_skip : (f : ℕ → ℕ) (n : ℕ) → f n ≤ 0 → mask_upto f (n + 1) ≡ mask_upto f n
mask_skip f n h = let e = le-ltb 0 (f n) h in mask_more f n ∙ rw e (omega arith)

twice : (n : ℕ) → 2 ^ (n + 1) ≡ 2 ^ n + 2 ^ n
twice n = rw add-one (omega (arith, pow-suc 2 n))

pub mask_lt : (f : ℕ → ℕ) (n : ℕ) → mask_upto f n < 2 ^ n
mask_lt f zero = rw mask_none (omega arith)
mask_lt f (suc n) =
    let ih = mask_lt f n in
    let double = twice n in
    let e : n + 1 ≡ suc n = omega arith in
    ⊎_elim
    (λ some. let more = mask_some f n some in rw (← e) (omega (arith, ih, double, more)))
    (λ none. let more = mask_skip f n none in rw (← e) (omega (arith, ih, double, more)))
    (cases_lt 0 (f n))

-- the low bits of the mask are the mask of the low tables
pub mask-mod : (f : ℕ → ℕ) (t n : ℕ) → t ≤ n → mask_upto f n % 2 ^ t ≡ mask_upto f t
mask-mod f t zero h = let e : t ≡ 0 = omega arith in rw e (mod-eq_of_lt (mask_lt f 0))
mask-mod f t (suc n) h = ⊎_elim
    (λ (below : t < suc n).
    let ih = mask-mod f t n (omega (arith, below)) in
    let e : n + 1 ≡ suc n = omega arith in
    let parts : 2 ^ n ≡ 2 ^ (n - t) * 2 ^ t = let s : (n - t) + t ≡ n = omega (arith, below) in rw (← pow-add 2 (n - t) t, s) refl in
    ⊎_elim
    (λ some. let more = mask_some f n some in
    let lifted : (mask_upto f n + 2 ^ n) % 2 ^ t ≡ mask_upto f n % 2 ^ t = rw parts (add-mul-mod_self_right (mask_upto f n) (2 ^ (n - t)) (2 ^ t)) in
    rw (← e) (rw more (lifted ∙ ih)))
    (λ none. let more = mask_skip f n none in rw (← e) (rw more ih))
    (cases_lt 0 (f n)))
    (λ (at : suc n ≤ t). let e : t ≡ suc n = omega (arith, at, h) in rw e (mod-eq_of_lt (mask_lt f (suc n))))
    (cases_lt t (suc n))

two : (b : ℕ) → b < 2 → (b ≡ 0) ⊎ (b ≡ 1)
two b h = ⊎_elim (λ some. inr (omega (arith, some, h))) (λ none. inl (omega (arith, none))) (cases_lt 0 b)

pub has_some : (f : ℕ → ℕ) (t : ℕ) → 0 < f t → has f t ≡ 1
has_some f t h = let e = lt-ltb 0 (f t) h in rw e refl

pub has_none : (f : ℕ → ℕ) (t : ℕ) → f t ≤ 0 → has f t ≡ 0
has_none f t h = let e = le-ltb 0 (f t) h in rw e refl

-- a table's bit is set where it has rows
pub bit_at-mask : (f : ℕ → ℕ) (t n : ℕ) → t < n → bit_at (mask_upto f n) t ≡ has f t
bit_at-mask f t n h =
    let m : ℕ = mask_upto f n in
    let turned : 1 + t ≡ t + 1 = omega arith in
    let high : m % 2 ^ (1 + t) ≡ mask_upto f (t + 1) = rw turned (mask-mod f (t + 1) n (omega arith)) in
    let low : m % 2 ^ t ≡ mask_upto f t = mask-mod f t n (omega arith) in
    let parts : m % 2 ^ (1 + t) ≡ bit_at m t * 2 ^ t + m % 2 ^ t = mod-pow-add m 1 t in
    let pos = pow_pos t in
    let which = two (bit_at m t) (bit_at-lt m t) in
    ⊎_elim
    (λ some.
    let more = mask_some f t some in
    let one = has_some f t some in
    ⊎_elim
    (λ zero'. let none : bit_at m t * 2 ^ t ≡ 0 = rw zero' (omega arith) in absurd (omega (arith, none, parts, high, low, more, pos)))
    (λ is. is ∙ sym one)
    which)
    (λ none.
    let more = mask_skip f t none in
    let nil = has_none f t none in
    ⊎_elim
    (λ is. is ∙ sym nil)
    (λ one'. let all : bit_at m t * 2 ^ t ≡ 2 ^ t = rw one' (omega arith) in absurd (omega (arith, all, parts, high, low, more, pos)))
    which)
    (cases_lt 0 (f t))

-- no bit is set past the tables
pub bit_at-mask_past : (f : ℕ → ℕ) (t n : ℕ) → n ≤ t → bit_at (mask_upto f n) t ≡ 0
bit_at-mask_past f t n h = bit_at_above (mask_upto f n) n t (mask_lt f n) h
