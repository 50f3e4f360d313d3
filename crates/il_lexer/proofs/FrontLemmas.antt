-- The first byte behind a front.
use Rattle.std.proofs.Common.{◌≡◌, ℕ, zero, suc, ◌<◌, ◌≤◌, ◌-◌, Bool, false, List, [], ◌∷◌, length, take, drop, get_or, refl, arith}
use Rattle.std.proofs.lemmas.Slice.{between_to_end}
use Rattle.il_lexer.specs.Classes.{first_passes}

pub first-within : (p : ℕ → Bool) (bs : List ℕ) (n : ℕ) → n < length bs → first_passes p (drop n bs) ≡ p (get_or bs n 0)
first-within p [] n h = absurd (omega arith)
first-within p (b ∷ bs) zero h = refl
first-within p (b ∷ bs) (suc n) h = let lt : n < length bs = omega arith in first-within p bs n lt

pub first-past : (p : ℕ → Bool) (bs : List ℕ) (n : ℕ) → length bs ≤ n → first_passes p (drop n bs) ≡ false
first-past p [] zero h = refl
first-past p [] (suc n) h = refl
first-past p (b ∷ bs) zero h = absurd (omega arith)
first-past p (b ∷ bs) (suc n) h = let le : length bs ≤ n = omega arith in first-past p bs n le

pub rest-is : (bs : List ℕ) (n : ℕ) → take (length bs - n) (drop n bs) ≡ drop n bs
rest-is bs n = let le : length bs ≤ length bs = omega arith in between_to_end bs n (length bs) le
