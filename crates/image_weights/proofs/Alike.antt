-- Numbers that are one where they are below 2^27, and both that or more elsewhere.
use Rattle.std.proofs.Common.{◌≡◌, ℕ, ◌+◌, ◌≤◌, ◌<◌, ◌^◌, refl, sym, ◌∙◌, ap, arith}
use Rattle.std.specs.Prelude.{min}
use Rattle.told_weights.specs.Told.{Tells}

-- a record, so that the numbers are found by it
pub record Alike (told weight : ℕ) : Type 0 where
  pub tells : Tells told weight

sums : (c a b x y : ℕ) → min a c ≡ min x c → min b c ≡ min y c → min (a + b) c ≡ min (x + y) c
sums c a b x y h k = omega (arith, h, k)

pub plus : {a b x y : ℕ} → Alike a x → Alike b y → Alike (a + b) (x + y)
plus {a = a} {b = b} {x = x} {y = y} h k = record { tells = sums (2 ^ 27) a b x y h.tells k.tells }

pub alike : {a x : ℕ} → a ≡ x → Alike a x
alike e = record { tells = ap (λ (n : ℕ). min n (2 ^ 27)) e }

pub exactly : (n : ℕ) → Alike n n
exactly n = record { tells = refl }

pub as_weight : {a x y : ℕ} → Alike a x → x ≡ y → Alike a y
as_weight h e = record { tells = h.tells ∙ ap (λ (n : ℕ). min n (2 ^ 27)) e }

pub as_told : {a b x : ℕ} → a ≡ b → Alike b x → Alike a x
as_told e h = record { tells = ap (λ (n : ℕ). min n (2 ^ 27)) e ∙ h.tells }

few : (c n a x : ℕ) → n < c → min a c ≡ min x c → a ≤ n → x ≤ n
few c n a x less h le = omega (arith, h)

-- below 2^26 both are, or neither
pub weighs_little : {a x : ℕ} → Alike a x → a ≤ 2 ^ 26 → x ≤ 2 ^ 26
weighs_little {a = a} {x = x} h le = few (2 ^ 27) (2 ^ 26) a x (omega arith) h.tells le

pub told_little : {a x : ℕ} → Alike a x → x ≤ 2 ^ 26 → a ≤ 2 ^ 26
told_little {a = a} {x = x} h le = few (2 ^ 27) (2 ^ 26) x a (omega arith) (sym h.tells) le
