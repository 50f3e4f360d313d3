-- Texts that are no words, by a test that no word passes.
use Rattle.std.proofs.Common.{◌≡◌, ℕ, suc, Bool, true, false, cond, not, ◌&&◌, ◌||◌, nat_eq, nat_le, List, [], ◌∷◌, ◌++◌, drop, None, Some, refl, ap, sym, subst, ◌∙◌, true≢false, arith}
use Rattle.std.specs.List.{list_all, list_any}
use Rattle.std.specs.Str.{bytes_eq}
use Rattle.std.specs.Cmp.Lexicographic.{bytes_decides}
use Rattle.il_lexer.specs.Classes.{first_is, first_passes, is_digit}
use Rattle.il_lexer.specs.WordList.{words, place_from, word_number}

at_one : (test : List ℕ → Bool) (x : List ℕ) (xs : List (List ℕ)) (k : ℕ) (w : List ℕ) (b : Bool) → bytes_eq x w ≡ b →
    (not (test x) && list_all (λ x. not (test x)) xs) ≡ true → test w ≡ true →
    (list_all (λ x. not (test x)) xs ≡ true → place_from (suc k) xs w ≡ None) → cond b (Some k) (place_from (suc k) xs w) ≡ None
at_one test x xs k w true e h t rec =
    let same : x ≡ w = (bytes_decides x w).0 e in
    let passes : test x ≡ true = ap test same ∙ t in
    absurd (true≢false (sym (subst (λ b. (not b && list_all (λ x. not (test x)) xs) ≡ true) passes h)))
at_one test x xs k w false e h t rec = rec (grind (arith, h))

pub absent : (test : List ℕ → Bool) (xs : List (List ℕ)) (k : ℕ) (w : List ℕ) → list_all (λ x. not (test x)) xs ≡ true → test w ≡ true →
    place_from k xs w ≡ None
absent test [] k w h t = refl
absent test (x ∷ xs) k w h t = at_one test x xs k w (bytes_eq x w) refl h t (λ h'. absent test xs (suc k) w h' t)

-- a text that begins with a digit, with `-` and a digit, with a capital letter, or with `"`
abbrev pub begins_so : List ℕ → Bool
begins_so w =
    first_passes (λ b. is_digit b || (nat_le 65 b && nat_le b 90) || nat_eq b 34) w || (first_is 45 w && first_passes is_digit (drop 1 w))

no_word_begins_so : list_all (λ x. not (begins_so x)) words ≡ true
unfolding words
no_word_begins_so = refl

pub begun : (w : List ℕ) → begins_so w ≡ true → word_number w ≡ None
begun w t = absent begins_so words 0 w no_word_begins_so t

-- a text with a blank or a single quote in it
abbrev pub has_mark : List ℕ → Bool
has_mark w = list_any (λ b. nat_eq b 32 || nat_eq b 39) w

no_word_has_mark : list_all (λ x. not (has_mark x)) words ≡ true
unfolding words
no_word_has_mark = refl

pub marked : (w : List ℕ) → has_mark w ≡ true → word_number w ≡ None
marked w t = absent has_mark words 0 w no_word_has_mark t

pub mark_within : (front back : List ℕ) → has_mark back ≡ true → has_mark (front ++ back) ≡ true
mark_within [] back h = h
mark_within (b ∷ front) back h = let rest = mark_within front back h in grind (arith, rest)
