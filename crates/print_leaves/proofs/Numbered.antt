-- Digits are added one by one.
use Rattle.std.proofs.Common.{◌≡◌, ℕ, ◌+◌, ◌-◌, ◌/◌, ◌%◌, ◌^◌, ◌<◌, ◌≤◌, ◌⊎◌, Bool, [], ◌∷◌, ap, sym, ◌∙◌}
use Rattle.std.proofs.lemmas.Fmt.{decimal_digit, decimal_step_wide}
use Rattle.std.specs.Fmt.{decimal, digits, digit_glyph}
use Rattle.listing_leaves.specs.Numbers.{at_least}
use Rattle.print_leaves.specs.Page.{Page, added}
use Rattle.print_leaves.proofs.Digits.{padded_one, padded_more}
use Rattle.print_leaves.proofs.Pages.{added_twice}

pub decimal_one : (q : Page) (n : ℕ) → n < 10 → added q ((48 + n) ∷ []) ≡ added q (decimal n)
decimal_one q n h = ap (added q) (sym (decimal_digit n h))

pub decimal_more : (q : Page) (n : ℕ) → 10 ≤ n → n < 10 ^ 64 → added (added q (decimal (n / 10))) ((48 + n % 10) ∷ []) ≡ added q (decimal n)
decimal_more q n h small = added_twice q (decimal (n / 10)) ((48 + n % 10) ∷ []) ∙ ap (added q) (sym (decimal_step_wide n h small))

pub hex_one : (q : Page) (upper : Bool) (width n : ℕ) → width ≤ 1 → n < 16 → added q (digit_glyph upper n ∷ []) ≡ added q (at_least width (digits 16 upper n))
hex_one q upper width n w h = ap (added q) (sym (padded_one upper width n w h))

pub hex_more : (q : Page) (upper : Bool) (width n : ℕ) → (1 < width) ⊎ (16 ≤ n) → n < 2 ^ 64 →
    added (added q (at_least (width - 1) (digits 16 upper (n / 16)))) (digit_glyph upper (n % 16) ∷ []) ≡ added q (at_least width (digits 16 upper n))
hex_more q upper width n h small =
    added_twice q (at_least (width - 1) (digits 16 upper (n / 16))) (digit_glyph upper (n % 16) ∷ [])
    ∙ ap (added q) (sym (padded_more upper width n h small))
