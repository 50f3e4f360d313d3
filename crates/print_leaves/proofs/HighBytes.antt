-- No word has a byte above 127.
use Rattle.std.proofs.Common.{◌≡◌, ℕ, zero, suc, ◌+◌, ◌-◌, ◌<◌, ◌≤◌, Bool, true, false, not, ◌&&◌, nat_le, cond, List, [], ◌∷◌, drop, get_or, Option, None, Some, inl, inr, refl, ap, sym, subst, ◌∙◌, true≢false, arith}
use Rattle.std.proofs.lemmas.Bool.{cases_Bool}
use Rattle.std.proofs.lemmas.List.{get_or-drop}
use Rattle.std.specs.Cmp.Lexicographic.{bytes_decides}
use Rattle.std.specs.List.{list_all, list_any}
use Rattle.std.specs.Prelude.{is_some}
use Rattle.std.specs.Str.{bytes_eq}
use Rattle.il_lexer.specs.WordList.{words, place_from, word_number}

abbrev has_high : List ℕ → Bool
has_high w = list_any (λ b. nat_le 128 b) w

at_one : (x : List ℕ) (xs : List (List ℕ)) (k : ℕ) (w : List ℕ) (b : Bool) → bytes_eq x w ≡ b →
    (not (has_high x) && list_all (λ x. not (has_high x)) xs) ≡ true → has_high w ≡ true →
    (list_all (λ x. not (has_high x)) xs ≡ true → place_from (suc k) xs w ≡ None) → cond b (Some k) (place_from (suc k) xs w) ≡ None
at_one x xs k w true e h t rec =
    let same : x ≡ w = (bytes_decides x w).0 e in
    let passes : has_high x ≡ true = ap has_high same ∙ t in
    absurd (true≢false (sym (subst (λ b. (not b && list_all (λ x. not (has_high x)) xs) ≡ true) passes h)))
at_one x xs k w false e h t rec = rec (grind (arith, h))

absent : (xs : List (List ℕ)) (k : ℕ) (w : List ℕ) → list_all (λ x. not (has_high x)) xs ≡ true → has_high w ≡ true → place_from k xs w ≡ None
absent [] k w h t = refl
absent (x ∷ xs) k w h t = at_one x xs k w (bytes_eq x w) refl h t (λ h'. absent xs (suc k) w h' t)

no_word_is_high : list_all (λ x. not (has_high x)) words ≡ true
unfolding words
no_word_is_high = refl

high_at : (w : List ℕ) (i : ℕ) → 128 ≤ get_or w i 0 → has_high w ≡ true
high_at [] i h = absurd (omega arith)
high_at (b ∷ bs) zero h = grind (arith, h)
high_at (b ∷ bs) (suc i) h = let rest = high_at bs i h in grind (arith, rest)

no_number : (o : Option ℕ) → o ≡ None → is_some o ≡ true → ⊥
no_number None e t = true≢false (sym t)
no_number (Some k) e t = cc

word_low : (w : List ℕ) (i : ℕ) → is_some (word_number w) ≡ true → get_or w i 0 < 128
word_low w i t =
    elim (cases_Bool (nat_le 128 (get_or w i 0))) [
      | inl e ↦
          let high : 128 ≤ get_or w i 0 = grind (arith, e) in
          absurd (no_number (word_number w) (absent words 0 w no_word_is_high (high_at w i high)) t)
      | inr e ↦ grind (arith, e)
    ]

-- where a name ends as a word, its bytes are below 128
pub ending_low : (bs : List ℕ) (start place : ℕ) → start ≤ place → is_some (word_number (drop start bs)) ≡ true → get_or bs place 0 < 128
ending_low bs start place h t =
    let same : start + (place - start) ≡ place = omega arith in
    subst (λ k. get_or bs k 0 < 128) same (subst (λ n. n < 128) (get_or-drop start bs (place - start) 0) (word_low (drop start bs) (place - start) t))
