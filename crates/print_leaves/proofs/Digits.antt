-- Hexadecimal digits, one by one.
use Rattle.std.proofs.Common.{◌≡◌, ℕ, zero, suc, ◌+◌, ◌-◌, ◌/◌, ◌%◌, ◌^◌, ◌<◌, ◌≤◌, ◌⊎◌, inl, inr, Bool, List, [], ◌∷◌, ◌++◌, length, cond, refl, ap, sym, ◌∙◌, append_assoc, length-append, arith}
use mathlib.Core.Logic.{⊎_elim}
use borrow.Author.Tests.{eq-eqb, ne_eqb}
use Rattle.std.proofs.lemmas.Bool.{cases_order}
use Rattle.std.specs.Fmt.{digits, digits_onto, digit_glyph}
use Rattle.listing_leaves.specs.Numbers.{zeros, at_least}

order : (n k : ℕ) → (n < k) ⊎ (k ≤ n)
order n k = ⊎_elim (λ e. inr (omega arith)) (λ h. ⊎_elim (λ l. inl l) (λ l. inr (omega arith)) h) (cases_order n k)

digits_onto-nil : (base : ℕ) (upper : Bool) (n : ℕ) → digits_onto 64 base upper n [] ≡ digits base upper n
unfolding digits
digits_onto-nil base upper n = refl

module _ (upper : Bool) where
  abbrev spell : ℕ → ℕ → List ℕ → List ℕ
  spell k n acc = digits_onto k 16 upper n acc

  abbrev last_glyph : ℕ → ℕ
  last_glyph n = digit_glyph upper (n % 16)

  spell_last : (k n : ℕ) (acc : List ℕ) → n < 16 → spell (suc k) n acc ≡ last_glyph n ∷ acc
  spell_last k n acc h = ap (λ t. cond t (last_glyph n ∷ acc) (spell k (n / 16) (last_glyph n ∷ acc))) (eq-eqb (n / 16) 0 (omega arith))

  spell_next : (k n : ℕ) (acc : List ℕ) → 16 ≤ n → spell (suc k) n acc ≡ spell k (n / 16) (last_glyph n ∷ acc)
  spell_next k n acc h = ap (λ t. cond t (last_glyph n ∷ acc) (spell k (n / 16) (last_glyph n ∷ acc))) (ne_eqb (n / 16) 0 (λ e. omega arith))

  spell-append : (k n : ℕ) (acc : List ℕ) → spell k n acc ≡ spell k n [] ++ acc
  spell-append zero n acc = refl
  spell-append (suc k) n acc = ⊎_elim
      (λ l. spell_last k n acc l ∙ ap (λ x. x ++ acc) (sym (spell_last k n [] l)))
      (λ l. spell_next k n acc l ∙ spell-append k (n / 16) (last_glyph n ∷ acc) ∙ sym (append_assoc (spell k (n / 16) []) (last_glyph n ∷ []) acc)
      ∙ ap (λ x. x ++ acc) (sym (spell_next k n [] l ∙ spell-append k (n / 16) (last_glyph n ∷ []))))
      (order n 16)

  -- the limit of digits doesn't matter once it is large enough
  spell_enough : (j k n : ℕ) (acc : List ℕ) → n < 16 ^ suc j → n < 16 ^ suc k → spell (suc j) n acc ≡ spell (suc k) n acc
  spell_enough zero k n acc p q = spell_last zero n acc (omega arith) ∙ sym (spell_last k n acc (omega arith))
  spell_enough (suc j) zero n acc p q = spell_last (suc j) n acc (omega arith) ∙ sym (spell_last zero n acc (omega arith))
  spell_enough (suc j) (suc k) n acc p q = ⊎_elim
      (λ l. spell_last (suc j) n acc l ∙ sym (spell_last (suc k) n acc l))
      (λ l. spell_next (suc j) n acc l ∙ spell_enough j k (n / 16) (last_glyph n ∷ acc) (omega arith) (omega arith) ∙ sym (spell_next (suc k) n acc l))
      (order n 16)

  pub hex_one : (n : ℕ) → n < 16 → digits 16 upper n ≡ digit_glyph upper n ∷ []
  hex_one n h =
      let same : n % 16 ≡ n = omega arith in
      sym (digits_onto-nil 16 upper n) ∙ (spell_last 63 n [] h ∙ ap (λ d. digit_glyph upper d ∷ []) same)

  pub hex_step : (n : ℕ) → 16 ≤ n → n < 2 ^ 64 → digits 16 upper n ≡ digits 16 upper (n / 16) ++ digit_glyph upper (n % 16) ∷ []
  hex_step n h small =
      sym (digits_onto-nil 16 upper n)
      ∙ (spell_next 63 n [] h ∙ (spell_enough 62 63 (n / 16) (last_glyph n ∷ []) (omega arith) (omega arith)
      ∙ (spell-append 64 (n / 16) (last_glyph n ∷ []) ∙ ap (λ ds. ds ++ last_glyph n ∷ []) (digits_onto-nil 16 upper (n / 16)))))

  zeros_last : (k : ℕ) → 48 ∷ zeros k ≡ zeros k ++ 48 ∷ []
  zeros_last zero = refl
  zeros_last (suc k) = ap (λ z. 48 ∷ z) (zeros_last k)

  zeros_suc : (m k : ℕ) → m ≡ suc k → zeros m ≡ zeros k ++ 48 ∷ []
  zeros_suc m k e = ap zeros e ∙ zeros_last k

  -- one digit alone
  pub padded_one : (width n : ℕ) → width ≤ 1 → n < 16 → at_least width (digits 16 upper n) ≡ digit_glyph upper n ∷ []
  padded_one width n w h =
      ap (at_least width) (hex_one n h) ∙ ap (λ k. zeros k ++ digit_glyph upper n ∷ []) {x = width - 1} {y = 0} (omega arith)

  -- the last digit behind the others
  padded_short : (width n : ℕ) → 1 < width → n < 16 → at_least width (digits 16 upper n) ≡ at_least (width - 1) (digits 16 upper (n / 16)) ++ digit_glyph upper (n % 16) ∷ []
  padded_short width n w h =
      let low : n / 16 ≡ 0 = omega arith in
      let same : n % 16 ≡ n = omega arith in
      let front : at_least (width - 1) (digits 16 upper (n / 16)) ≡ zeros (width - 1 - 1) ++ 48 ∷ [] =
      ap (λ m. at_least (width - 1) (digits 16 upper m)) low ∙ ap (at_least (width - 1)) (hex_one 0 (omega arith)) in
      ap (at_least width) (hex_one n h)
      ∙ (ap (λ z. z ++ digit_glyph upper n ∷ []) (zeros_suc (width - 1) (width - 1 - 1) (omega arith))
      ∙ (ap (λ z. z ++ digit_glyph upper n ∷ []) (sym front) ∙ ap (λ m. at_least (width - 1) (digits 16 upper (n / 16)) ++ digit_glyph upper m ∷ []) (sym same)))

  padded_long : (width n : ℕ) → 16 ≤ n → n < 2 ^ 64 → at_least width (digits 16 upper n) ≡ at_least (width - 1) (digits 16 upper (n / 16)) ++ digit_glyph upper (n % 16) ∷ []
  padded_long width n h small =
      let ds = digits 16 upper (n / 16) in
      let g = digit_glyph upper (n % 16) in
      let long : length (ds ++ g ∷ []) ≡ length ds + 1 = length-append ds (g ∷ []) in
      ap (at_least width) (hex_step n h small)
      ∙ (ap (λ k. zeros k ++ (ds ++ g ∷ [])) {x = width - length (ds ++ g ∷ [])} {y = width - 1 - length ds} (omega (arith, long))
      ∙ sym (append_assoc (zeros (width - 1 - length ds)) ds (g ∷ [])))

  pub padded_more : (width n : ℕ) → (1 < width) ⊎ (16 ≤ n) → n < 2 ^ 64 → at_least width (digits 16 upper n) ≡ at_least (width - 1) (digits 16 upper (n / 16)) ++ digit_glyph upper (n % 16) ∷ []
  padded_more width n h small = ⊎_elim
      (λ short. ⊎_elim (λ w. padded_short width n w short) (λ long. padded_long width n long small) h)
      (λ long. padded_long width n long small)
      (order n 16)
