-- Bytes in parentheses are read back.
use Rattle.std.proofs.Common.{◌≡◌, inl, inr, ℕ, zero, suc, ◌+◌, ◌*◌, ◌/◌, ◌%◌, ◌<◌, ◌≤◌, ◌&&◌, ◌||◌, not, nat_lt, nat_eq, Bool, true, false, cond, List, [], ◌∷◌, ◌++◌, length, drop, None, Some, refl, ap, sym, subst, ◌∙◌, arith, length-append}
use Rattle.std.proofs.lemmas.Bool.{and_parts, cases_Bool, eqb-true, ltb-true, false≢true}
use Rattle.std.specs.Fmt.{digit_glyph}
use Rattle.std.specs.Option.{option_map}
use Rattle.il_lexer.specs.Classes.{is_blank, is_hex}
use Rattle.il_lexer.specs.Gaps.{comment_length, gap_piece, gap}
use Rattle.il_lexer.specs.Runs.{run_of, run_within, from_piece}
use Rattle.source_model.specs.Values.{pair_then, pairs_within, digit_value, bytes_in_parentheses}
use Rattle.listing_leaves.specs.Bytes.{pair, pairs, parenthesized, equals_bytes, byte_array}
use Rattle.listing_leaves.specs.Laws.{are_bytes}
use Rattle.listing_values.specs.Laws.{BytesAreRead}

-- ---- digits

-- what the digit of a number below 16 is
abbrev glyph_ok : ℕ → Bool
glyph_ok d =
    is_hex (digit_glyph true d) && (nat_eq (digit_value (digit_glyph true d)) d && not (is_blank (digit_glyph true d) || nat_eq (digit_glyph true d) 47))

all_ok : ℕ → Bool
all_ok zero = true
all_ok (suc n) = glyph_ok n && all_ok n

all_are : all_ok 16 ≡ true
unfolding all_ok
all_are = refl

below_next : (n d : ℕ) → nat_eq n d ≡ false → d < suc n → d < n
below_next n d e low = grind (arith, e, low)

glyph_at : (n d : ℕ) → all_ok n ≡ true → d < n → glyph_ok d ≡ true
unfolding all_ok
glyph_at zero d h low = absurd (omega arith)
glyph_at (suc n) d h low =
    let hs = and_parts (glyph_ok n) (all_ok n) h in
    elim (cases_Bool (nat_eq n d)) [
      | inl e ↦ subst (λ k. glyph_ok k ≡ true) (eqb-true n d e) hs.0
      | inr e ↦ glyph_at n d hs.1 (below_next n d e low)
    ]

pub record Glyph (d : ℕ) : Type 0 where
  pub hex : is_hex (digit_glyph true d) ≡ true
  pub value : digit_value (digit_glyph true d) ≡ d
  pub apart : (is_blank (digit_glyph true d) || nat_eq (digit_glyph true d) 47) ≡ false

not_true : (x : Bool) → not x ≡ true → x ≡ false
not_true false h = refl
not_true true h = absurd (false≢true h)

glyph : (d : ℕ) → d < 16 → Glyph d
glyph d low =
    let g = and_parts _ _ (glyph_at 16 d all_are low) in
    let v = and_parts _ _ g.1 in
    record { hex = g.0; value = eqb-true (digit_value (digit_glyph true d)) d v.0; apart = not_true _ v.1 }

-- ---- gaps

no_piece_at : (b : ℕ) (bs : List ℕ) → (is_blank b || nat_eq b 47) ≡ false → gap_piece (b ∷ bs) ≡ None
no_piece_at b bs h = by (is_blank b) (nat_eq b 47) h
  where
    by : (x y : Bool) → (x || y) ≡ false → cond x (Some 1) (cond y (option_map (λ n. 1 + n) (comment_length bs)) None) ≡ None
    by true y k = absurd (false≢true (sym k))
    by false true k = absurd (false≢true (sym k))
    by false false k = refl

no_gap : (b : ℕ) (bs : List ℕ) → (is_blank b || nat_eq b 47) ≡ false → gap (b ∷ bs) ≡ 0
unfolding run_of
no_gap b bs h = ap (λ o. (from_piece o (λ n. run_within (length bs) gap_piece (drop n (b ∷ bs)))).bytes) (no_piece_at b bs h)

one_gap : (b : ℕ) (bs : List ℕ) → (is_blank b || nat_eq b 47) ≡ false → gap (32 ∷ b ∷ bs) ≡ 1
unfolding run_of
one_gap b bs h = ap (λ o. 1 + (from_piece o (λ n. run_within (length bs) gap_piece (drop n (b ∷ bs)))).bytes) (no_piece_at b bs h)

-- ---- pairs

pair_read : (b : ℕ) (more : List ℕ) (next : List ℕ → List ℕ) → b < 256 → pair_then next (pair b ++ more) ≡ b ∷ next more
pair_read b more next low =
    let high = glyph (b / 16) (omega arith) in
    let other = glyph (b % 16) (omega arith) in
    let x = digit_glyph true (b / 16) in
    let y = digit_glyph true (b % 16) in
    let value : 16 * (b / 16) + b % 16 ≡ b = omega arith in
    ap (λ c. cond c ((16 * digit_value x + digit_value y) ∷ next more) []) high.hex
    ∙ (ap (λ k. (16 * k + digit_value y) ∷ next more) high.value ∙ (ap (λ k. (16 * (b / 16) + k) ∷ next more) other.value ∙ ap (λ k. k ∷ next more) value))

-- a pair at the front
pair_step : (steps b : ℕ) (more : List ℕ) → b < 256 → pairs_within (suc steps) (pair b ++ more) ≡ b ∷ pairs_within steps more
pair_step steps b more low =
    let high = glyph (b / 16) (omega arith) in
    ap (λ n. pair_then (pairs_within steps) (drop n (pair b ++ more))) (no_gap (digit_glyph true (b / 16)) (digit_glyph true (b % 16) ∷ more) high.apart)
    ∙ pair_read b more (pairs_within steps) low

-- a blank at the front
blank_step : (steps b : ℕ) (bs : List ℕ) → (is_blank b || nat_eq b 47) ≡ false → pairs_within steps (32 ∷ b ∷ bs) ≡ pairs_within steps (b ∷ bs)
blank_step zero b bs h = refl
blank_step (suc steps) b bs h =
    ap (λ n. pair_then (pairs_within steps) (drop n (32 ∷ b ∷ bs))) (one_gap b bs h)
    ∙ sym (ap (λ n. pair_then (pairs_within steps) (drop n (b ∷ bs))) (no_gap b bs h))

closed : (steps : ℕ) → pairs_within steps (41 ∷ []) ≡ []
unfolding run_of
closed zero = refl
closed (suc steps) = refl

-- the first digit of pairs
next_pairs : (steps c : ℕ) (more : List ℕ) → c < 256 → pairs_within steps (32 ∷ (pairs (c ∷ more) ++ 41 ∷ [])) ≡ pairs_within steps (pairs (c ∷ more) ++ 41 ∷ [])
next_pairs steps c [] low = let high = glyph (c / 16) (omega arith) in blank_step steps (digit_glyph true (c / 16)) _ high.apart
next_pairs steps c (d ∷ more) low = let high = glyph (c / 16) (omega arith) in blank_step steps (digit_glyph true (c / 16)) _ high.apart

pairs_read : (bytes : List ℕ) → are_bytes bytes ≡ true → (steps : ℕ) → length bytes ≤ steps → pairs_within steps (pairs bytes ++ 41 ∷ []) ≡ bytes
pairs_read [] h steps le = closed steps
pairs_read (b ∷ bs) h zero le = absurd (omega arith)
pairs_read (b ∷ []) h (suc steps) le =
    let hs = and_parts (nat_lt b 256) true h in pair_step steps b (41 ∷ []) (ltb-true b 256 hs.0) ∙ ap (λ t. b ∷ t) (closed steps)
pairs_read (b ∷ c ∷ more) h (suc steps) le =
    let hs = and_parts (nat_lt b 256) (are_bytes (c ∷ more)) h in
    let ks = and_parts (nat_lt c 256) (are_bytes more) hs.1 in
    pair_step steps b (32 ∷ (pairs (c ∷ more) ++ 41 ∷ [])) (ltb-true b 256 hs.0)
    ∙ ap (λ t. b ∷ t) (next_pairs steps c more (ltb-true c 256 ks.0) ∙ pairs_read (c ∷ more) hs.1 steps (omega arith))

-- there are more bytes in the text than pairs
long : (bytes : List ℕ) → length bytes ≤ length (pairs bytes)
long [] = omega arith
long (b ∷ []) = omega arith
long (b ∷ c ∷ more) = let rest = long (c ∷ more) in omega arith

inside_read : (bytes : List ℕ) → are_bytes bytes ≡ true → bytes_in_parentheses (32 ∷ parenthesized bytes) ≡ bytes
unfolding bytes_in_parentheses
inside_read bytes h =
    let all = 32 ∷ 40 ∷ (pairs bytes ++ 41 ∷ []) in
    let most = long bytes in
    let split = length-append (pairs bytes) (41 ∷ []) in
    ap (λ n. pairs_within (length all) (drop (n + 1) all)) (one_gap 40 (pairs bytes ++ 41 ∷ []) refl) ∙ pairs_read bytes h (length all) (omega arith)

equals_read : (bytes : List ℕ) → are_bytes bytes ≡ true → bytes_in_parentheses (drop 1 (equals_bytes bytes)) ≡ bytes
unfolding equals_bytes
equals_read bytes h = inside_read bytes h

array_read : (bytes : List ℕ) → are_bytes bytes ≡ true → bytes_in_parentheses (drop 9 (byte_array bytes)) ≡ bytes
unfolding byte_array
array_read bytes h = inside_read bytes h

pub bytes_are_read : BytesAreRead
bytes_are_read = record { equals = equals_read; array = array_read }
