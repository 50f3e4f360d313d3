-- The marks of one byte by their table: computed of each byte.
use Rattle.std.proofs.Common.{◌≡◌, ℕ, ◌<◌, Bool, true, false, not, nat_eq, ◌&&◌, ◌||◌, get_or, List, ◌∷◌, inl, inr, refl, sym, ap, ◌∙◌, Ok, Err}
use Rattle.std.proofs.lemmas.Bool.{eqb-true, and_parts, or_cases, false≢true}
use Rattle.il_lexer.specs.Tokens.{Found, token, mark_token, token_at}
use Rattle.il_lexer.specs.declared.types.TokenKind.TheVariants.{Word}
use Rattle.il_lexer.specs.declared.lexeme.TheConstants.{MARKS}
use Rattle.il_lexer.proofs.IdParts.{all_below, below}

abbrev is_pair : ℕ → ℕ → ℕ → ℕ → Bool
is_pair b n x k = nat_eq b x && nat_eq n k

abbrev is_marked : ℕ → ℕ → Bool
is_marked b n =
    is_pair b n 123 399 ||
    (is_pair b n 125 400 ||
    (is_pair b n 41 4 ||
    (is_pair b n 93 70 ||
    (is_pair b n 60 63 ||
    (is_pair b n 62 65 ||
    (is_pair b n 44 7 ||
    (is_pair b n 43 6 ||
    (is_pair b n 38 2 ||
    is_pair b n 42 5))))))))

abbrev marks_agree : ℕ → Bool
marks_agree b = nat_eq (get_or MARKS b 0) 0 || is_marked b (get_or MARKS b 0)

all_marks_agree : all_below marks_agree 256 ≡ true
all_marks_agree = refl

or_else : (s t : Bool) {A : Type 0} → (s ≡ true → A) → (t ≡ true → A) → (s || t) ≡ true → A
or_else s t f g h = elim (or_cases s t h) [ inl e ↦ f e | inr e ↦ g e ]

-- a byte that is `x`, and a number that is `k`
pair_is : (b n x k : ℕ) (bs : List ℕ) → token_at (x ∷ bs) ≡ token (Word k) 1 → is_pair b n x k ≡ true → token_at (b ∷ bs) ≡ token (Word n) 1
pair_is b n x k bs e h =
    let both = and_parts (nat_eq b x) (nat_eq n k) h in
    ap (λ (y : ℕ). token_at (y ∷ bs)) (eqb-true b x both.0) ∙ e ∙ ap (λ (m : ℕ). token (Word m) 1) (sym (eqb-true n k both.1))

marked : (b n : ℕ) (bs : List ℕ) → is_marked b n ≡ true → token_at (b ∷ bs) ≡ token (Word n) 1
unfolding token_at mark_token
marked b n bs h =
    or_else _ _ (pair_is b n 123 399 bs refl)
    (or_else _ _ (pair_is b n 125 400 bs refl)
    (or_else _ _ (pair_is b n 41 4 bs refl)
    (or_else _ _ (pair_is b n 93 70 bs refl)
    (or_else _ _ (pair_is b n 60 63 bs refl)
    (or_else _ _ (pair_is b n 62 65 bs refl)
    (or_else _ _ (pair_is b n 44 7 bs refl)
    (or_else _ _ (pair_is b n 43 6 bs refl)
    (or_else _ _ (pair_is b n 38 2 bs refl)
    (pair_is b n 42 5 bs refl)))))))))
    h

-- a byte with a number in the table is the token of that word, whatever follows
pub one_mark : (b : ℕ) (bs : List ℕ) → b < 256 → nat_eq (get_or MARKS b 0) 0 ≡ false → token_at (b ∷ bs) ≡ token (Word (get_or MARKS b 0)) 1
one_mark b bs lt some =
    or_else (nat_eq (get_or MARKS b 0) 0) (is_marked b (get_or MARKS b 0))
    (λ none. absurd (false≢true (sym some ∙ none)))
    (marked b (get_or MARKS b 0) bs) (below marks_agree 256 b all_marks_agree lt)

-- whether rule 5 is broken
abbrev breaks_fifth : Found → Bool
breaks_fifth (Ok l) = false
breaks_fifth (Err n) = nat_eq n 5

fifth : (r : Found) → breaks_fifth r ≡ true → r ≡ Err 5
fifth (Ok l) e = absurd (false≢true e)
fifth (Err n) e = ap Err (eqb-true n 5 e)

abbrev others_break : ℕ → Bool
others_break b = not (nat_eq (get_or MARKS b 0) 0) || breaks_fifth (mark_token b)

all_others_break : all_below others_break 256 ≡ true
unfolding mark_token
all_others_break = refl

-- a byte without a number in the table is no mark
pub no_mark : (b : ℕ) → b < 256 → nat_eq (get_or MARKS b 0) 0 ≡ true → mark_token b ≡ Err 5
no_mark b lt none =
    or_else (not (nat_eq (get_or MARKS b 0) 0)) (breaks_fifth (mark_token b))
    (λ some. absurd (false≢true (sym (ap not none) ∙ some)))
    (fifth (mark_token b)) (below others_break 256 b all_others_break lt)
