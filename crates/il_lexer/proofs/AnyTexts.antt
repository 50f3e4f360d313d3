-- Where a text in quotes ends, whatever escapes it has.
use Rattle.std.proofs.Common.{◌≡◌, ℕ, suc, ◌+◌, Bool, true, false, not, ◌&&◌, ◌||◌, nat_eq, ◌⊎◌, inl, inr, List, [], ◌∷◌, ◌++◌, length, drop, None, Some, refl, ap, sym, subst, ◌∙◌, arith, drop_at, true≢false}
use Rattle.std.proofs.lemmas.Bool.{cases_Bool, cond-true, cond-false, eqb-true, false≢true, and_parts}
use Rattle.std.specs.Option.{option_map}
use Rattle.il_lexer.specs.Classes.{first_is}
use Rattle.il_lexer.specs.Runs.{run_of}
use Rattle.il_lexer.specs.Quotes.{any_escape_length, any_char_length, ends}
use Rattle.il_lexer.specs.Longest.{IsAnyText, Closes}
use Rattle.il_lexer.proofs.RunLemmas.{run-none}
use Rattle.il_lexer.proofs.Fronts.{Front, front-rest, Steps, stop, step, steps, run-append, first-is-cons, eq-self, none-first, map-some, heads-same, tails-same}

some_same : (a n : ℕ) → Some a ≡ Some n → a ≡ n
some_same a n h = cc

any_parts : (x y z : Bool) → not (x || y || z) ≡ true → ((x || y) ≡ false) × (z ≡ false)
any_parts true y z h = absurd (false≢true h)
any_parts false true z h = absurd (false≢true h)
any_parts false false true h = absurd (false≢true h)
any_parts false false false h = (refl, refl)

any_from : (x y z : Bool) → (x || y) ≡ false → z ≡ false → not (x || y || z) ≡ true
any_from true y z h k = absurd (true≢false h)
any_from false true z h k = absurd (true≢false h)
any_from false false true h k = absurd (true≢false k)
any_from false false false h k = refl

any_first : (x y z : Bool) → not (x || y || z) ≡ true → y ≡ false
any_first true y z h = absurd (false≢true h)
any_first false true z h = absurd (false≢true h)
any_first false false z h = refl

-- a quote that is no backslash and no line feed
pub record IsQuoteByte (q : ℕ) : Type 0 where
  pub slash : nat_eq 92 q ≡ false
  pub line : nat_eq q 10 ≡ false

text_no_line : (q : ℕ) → IsQuoteByte q → {text : List ℕ} → IsAnyText q text → (after : List ℕ) → first_is 10 (text ++ q ∷ after) ≡ false
text_no_line q ok IsAnyText.none after = ok.line
text_no_line q ok (IsAnyText.plain {b = b} h more) after = any_first (nat_eq b q) (nat_eq b 10) (nat_eq b 92) h
text_no_line q ok (IsAnyText.escape more is) after = ap (λ x. first_is 10 (x ++ q ∷ after)) is
text_no_line q ok (IsAnyText.return_line more is) after = ap (λ x. first_is 10 (x ++ q ∷ after)) is

quote_ends : (q : ℕ) (after : List ℕ) → any_char_length q (q ∷ after) ≡ None
quote_ends q after = cond-true (nat_eq q q || nat_eq q 10) _ _ (ap (λ t. t || nat_eq q 10) (eq-self q))

slash_piece : (q n : ℕ) (rest : List ℕ) → IsQuoteByte q → any_escape_length rest ≡ Some n → any_char_length q (92 ∷ rest) ≡ Some (suc n)
slash_piece q n rest ok e =
    cond-false (nat_eq 92 q || false) _ _ (ap (λ t. t || false) ok.slash)
    ∙ ap (option_map (λ m. 1 + m)) e ∙ (let one : 1 + n ≡ suc n = omega arith in ap Some one)

one_taken : (b : ℕ) (rest : List ℕ) → first_is 10 rest ≡ false → any_escape_length (b ∷ rest) ≡ Some 1
one_taken b rest h = cond-false (nat_eq b 13 && first_is 10 rest) _ _ (second_false (nat_eq b 13) (first_is 10 rest) h)
  where
    second_false : (x y : Bool) → y ≡ false → (x && y) ≡ false
    second_false true y h = h
    second_false false y h = refl

any_run : (q : ℕ) → IsQuoteByte q → {text : List ℕ} → IsAnyText q text → (after : List ℕ) →
    (run_of (any_char_length q) (text ++ q ∷ after)).bytes ≡ length text
any_run q ok IsAnyText.none after = ap (λ r. r.bytes) (run-none (any_char_length q) (q ∷ after) (quote_ends q after))
any_run q ok (IsAnyText.plain {b = b} {bs = bs} h more) after =
    let rest : (run_of (any_char_length q) (bs ++ q ∷ after)).bytes ≡ length bs = any_run q ok more after in
    let parts = any_parts (nat_eq b q) (nat_eq b 10) (nat_eq b 92) h in
    let piece : any_char_length q (b ∷ (bs ++ q ∷ after)) ≡ Some 1 =
    cond-false (nat_eq b q || nat_eq b 10) _ _ parts.0 ∙ cond-false (nat_eq b 92) _ _ parts.1 in
    let bytes : (run_of (any_char_length q) (b ∷ (bs ++ q ∷ after))).bytes ≡ 1 + (run_of (any_char_length q) (bs ++ q ∷ after)).bytes =
    ap (λ r. r.bytes) (run-append (any_char_length q) (b ∷ []) (bs ++ q ∷ after) (omega arith) piece) in
    omega arith
any_run q ok (IsAnyText.escape {b = b} {bs = bs} {w = w} more is) after =
    let rest : (run_of (any_char_length q) (bs ++ q ∷ after)).bytes ≡ length bs = any_run q ok more after in
    let piece : any_char_length q (92 ∷ b ∷ (bs ++ q ∷ after)) ≡ Some 2 =
    slash_piece q 1 (b ∷ (bs ++ q ∷ after)) ok (one_taken b (bs ++ q ∷ after) (text_no_line q ok more after)) in
    let bytes : (run_of (any_char_length q) (92 ∷ b ∷ (bs ++ q ∷ after))).bytes ≡ 2 + (run_of (any_char_length q) (bs ++ q ∷ after)).bytes =
    ap (λ r. r.bytes) (run-append (any_char_length q) (92 ∷ b ∷ []) (bs ++ q ∷ after) (omega arith) piece) in
    let wide : length w ≡ suc (suc (length bs)) = ap length is in
    let goes : (run_of (any_char_length q) (w ++ q ∷ after)).bytes ≡ (run_of (any_char_length q) (92 ∷ b ∷ (bs ++ q ∷ after))).bytes =
    ap (λ x. (run_of (any_char_length q) (x ++ q ∷ after)).bytes) is in
    omega arith
any_run q ok (IsAnyText.return_line {bs = bs} {w = w} more is) after =
    let rest : (run_of (any_char_length q) (bs ++ q ∷ after)).bytes ≡ length bs = any_run q ok more after in
    let piece : any_char_length q (92 ∷ 13 ∷ 10 ∷ (bs ++ q ∷ after)) ≡ Some 3 =
    slash_piece q 2 (13 ∷ 10 ∷ (bs ++ q ∷ after)) ok refl in
    let bytes : (run_of (any_char_length q) (92 ∷ 13 ∷ 10 ∷ (bs ++ q ∷ after))).bytes ≡ 3 + (run_of (any_char_length q) (bs ++ q ∷ after)).bytes =
    ap (λ r. r.bytes) (run-append (any_char_length q) (92 ∷ 13 ∷ 10 ∷ []) (bs ++ q ∷ after) (omega arith) piece) in
    let wide : length w ≡ suc (suc (suc (length bs))) = ap length is in
    let goes : (run_of (any_char_length q) (w ++ q ∷ after)).bytes ≡ (run_of (any_char_length q) (92 ∷ 13 ∷ 10 ∷ (bs ++ q ∷ after))).bytes =
    ap (λ x. (run_of (any_char_length q) (x ++ q ∷ after)).bytes) is in
    omega arith

any_front : (q : ℕ) {bs : List ℕ} {r k : ℕ} → Steps (any_char_length q) bs r k → Front (IsAnyText q) bs r
any_front q {bs} (stop stuck er ek) = record { word = []; after = bs; holds = IsAnyText.none; whole = refl; long = sym er }
any_front q {r = rs} (step {b = b} {n = n} {r = r} {bs = bs} e more er ek) =
    let rest : Front (IsAnyText q) (drop n bs) r = any_front q more in
    let allowed = none-first (nat_eq b q || nat_eq b 10) _ (suc n) e in
    elim (cases_Bool (nat_eq b 92)) [
      | inl slash ↦
          let m = map-some 1 (suc n) (any_escape_length bs) (sym (cond-true (nat_eq b 92) _ _ slash) ∙ allowed.1) in
          let same : m.0 ≡ n = (let sum : 1 + m.0 ≡ suc n = m.2 in omega arith) in
          subst (λ x. Front (IsAnyText q) (x ∷ bs) rs) (sym (eqb-true b 92 slash)) (escaped n r rs bs (m.1 ∙ ap Some same) er rest)
      | inr other ↦
          let zero_is : n ≡ 0 = (let k : 1 ≡ suc n = some_same 1 (suc n) (sym (cond-false (nat_eq b 92) _ _ other) ∙ allowed.1) in omega arith) in
          let l2 : length rest.word ≡ r = rest.long in
          record {
            word = b ∷ rest.word;
            after = rest.after;
            holds = IsAnyText.plain (any_from (nat_eq b q) (nat_eq b 10) (nat_eq b 92) allowed.0 other) rest.holds;
            whole = ap (λ xs. b ∷ xs) (sym (ap (λ m. drop m bs) zero_is) ∙ rest.whole);
            long = omega arith;
          }
    ]
  where
    escaped : (n r rs : ℕ) (bs : List ℕ) → any_escape_length bs ≡ Some n → rs ≡ suc (n + r) → Front (IsAnyText q) (drop n bs) r →
        Front (IsAnyText q) (92 ∷ bs) rs
    escaped n r rs [] e er rest = cc
    escaped n r rs (b ∷ bs) e er rest = elim (cases_Bool (nat_eq b 13 && first_is 10 bs)) [
      | inl t ↦
          let parts = and_parts (nat_eq b 13) (first_is 10 bs) t in
          let next = first-is-cons 10 bs parts.1 in
          let two : 2 ≡ n = some_same 2 n (sym (cond-true (nat_eq b 13 && first_is 10 bs) _ _ t) ∙ e) in
          let behind : next.0 ≡ drop n (b ∷ bs) = sym (ap (drop 1) next.1) ∙ ap (λ m. drop m (b ∷ bs)) two in
          let l2 : length rest.word ≡ r = rest.long in
          record {
            word = 92 ∷ 13 ∷ 10 ∷ rest.word;
            after = rest.after;
            holds = IsAnyText.return_line rest.holds refl;
            whole = ap (λ x. 92 ∷ x ∷ bs) (eqb-true b 13 parts.0) ∙ ap (λ x. 92 ∷ 13 ∷ x) (next.1 ∙ ap (λ x. 10 ∷ x) (behind ∙ rest.whole));
            long = omega arith;
          }
      | inr t ↦
          let one : 1 ≡ n = some_same 1 n (sym (cond-false (nat_eq b 13 && first_is 10 bs) _ _ t) ∙ e) in
          let behind : bs ≡ drop n (b ∷ bs) = ap (λ m. drop m (b ∷ bs)) one in
          let l2 : length rest.word ≡ r = rest.long in
          record {
            word = 92 ∷ b ∷ rest.word;
            after = rest.after;
            holds = IsAnyText.escape rest.holds refl;
            whole = ap (λ x. 92 ∷ b ∷ x) (behind ∙ rest.whole);
            long = omega arith;
          }
    ]

-- the text behind a quote ends exactly where the quote is found again
pub closes-found : (q : ℕ) (bs : List ℕ) → (q ≡ 34) ⊎ (q ≡ 39) → ends q bs ≡ true → Closes (q ∷ bs)
closes-found q bs kind h =
    let f : Front (IsAnyText q) bs (run_of (any_char_length q) bs).bytes = any_front q (steps (any_char_length q) refl bs) in
    let next = first-is-cons q (drop (run_of (any_char_length q) bs).bytes bs) h in (
      q,
      f.word,
      next.0,
      kind,
      f.holds,
      ap (λ x. q ∷ x) (f.whole ∙ ap (λ x. f.word ++ x) (sym (front-rest f) ∙ next.1)),
    )

pub closes-ends : (q : ℕ) (bs : List ℕ) → IsQuoteByte q → Closes (q ∷ bs) → ends q bs ≡ true
closes-ends q bs ok (p, text, after, kind, t, is) =
    let same : q ≡ p = heads-same q p bs (text ++ p ∷ after) is in
    let here : IsAnyText q text = subst (λ x. IsAnyText x text) (sym same) t in
    let whole : bs ≡ text ++ q ∷ after = tails-same q p bs (text ++ p ∷ after) is ∙ ap (λ x. text ++ x ∷ after) (sym same) in
    ap (ends q) whole
    ∙ ap (λ n. first_is q (drop n (text ++ q ∷ after))) (any_run q ok here after)
    ∙ ap (first_is q) (drop_at text (q ∷ after) (length text) refl)
    ∙ eq-self q
