-- Texts in quotes: what the runs over them find.
use Rattle.std.proofs.Common.{◌≡◌, ℕ, suc, ◌+◌, Bool, true, false, cond, not, ◌&&◌, ◌||◌, nat_eq, ◌⊎◌, inl, inr, List, [], ◌∷◌, ◌++◌, length, take, drop, None, Some, refl, ap, sym, subst, ◌∙◌, arith, length-append, append_assoc, take_at, drop_at, true≢false}
use Rattle.std.proofs.lemmas.Bool.{cases_Bool, cond-true, cond-false, eqb-true, false≢true, false_from_ne_true}
use Rattle.std.specs.Option.{option_map}
use Rattle.il_lexer.specs.Classes.{first_passes, first_is}
use Rattle.il_lexer.specs.Runs.{run_of}
use Rattle.il_lexer.specs.Quotes.{line_end, is_octal_code, is_escape_letter, escape_length, char_length, quoted_length}
use Rattle.il_lexer.specs.Spellings.{empty_piece, is_empty_quote, quoted_part}
use Rattle.il_lexer.specs.Spelled.{IsEscape, IsText, is_plain, IsEmptyText}
use Rattle.il_lexer.proofs.RunLemmas.{run-none}
use Rattle.il_lexer.proofs.Fronts.{Front, front-rest, Steps, stop, step, steps, run-append, first-is-cons, eq-self, none-first, map-some}

-- what a backslash takes along
and4-false : (x y z u : Bool) → x ≡ false → (x && y && z && u) ≡ false
and4-false true y z u h = absurd (true≢false h)
and4-false false y z u h = refl

no_octal : (b : ℕ) (bs : List ℕ) → (nat_eq b 48 || nat_eq b 49) ≡ false → is_octal_code (b ∷ bs) ≡ false
no_octal b [] h = refl
no_octal b (c ∷ []) h = refl
no_octal b (c ∷ d ∷ bs) h = and4-false _ _ _ _ h

octal_first : (b : ℕ) (x y z : Bool) → ((nat_eq b 48 || nat_eq b 49) && x && y && z) ≡ true → is_escape_letter b ≡ false
octal_first b x y z h =
    elim (cases_Bool (nat_eq b 48)) [
      | inl e ↦ ap is_escape_letter (eqb-true b 48 e)
      | inr n ↦ elim (cases_Bool (nat_eq b 49)) [
        | inl e ↦ ap is_escape_letter (eqb-true b 49 e)
        | inr m ↦ absurd (false≢true (sym (and4-false (nat_eq b 48 || nat_eq b 49) x y z
            (ap (λ t. t || nat_eq b 49) n ∙ m)) ∙ h))
      ]
    ]

pub escape-exact : {e : List ℕ} → IsEscape e → (rest : List ℕ) → escape_length (e ++ rest) ≡ Some (length e)
escape-exact {e} (IsEscape.letter {a = a} h is) rest =
    subst (λ w. escape_length (w ++ rest) ≡ Some (length w)) (sym is) (cond-true (is_escape_letter a) _ _ h)
escape-exact {e} (IsEscape.octal {a = a} {b = b} {c = c} h is) rest =
    subst (λ w. escape_length (w ++ rest) ≡ Some (length w)) (sym is)
    (cond-false (is_escape_letter a) _ _ (octal_first a _ _ _ h) ∙ cond-true (is_octal_code (a ∷ b ∷ c ∷ rest)) _ _ h)
escape-exact {e} (IsEscape.line is) rest =
    subst (λ w. escape_length (w ++ rest) ≡ Some (length w)) (sym is)
    (cond-false (is_octal_code (10 ∷ rest)) _ _ (no_octal 10 rest refl))
escape-exact {e} (IsEscape.return_line is) rest =
    subst (λ w. escape_length (w ++ rest) ≡ Some (length w)) (sym is)
    (cond-false (is_octal_code (13 ∷ 10 ∷ rest)) _ _ (no_octal 13 (10 ∷ rest) refl))

line_end-front : (bs : List ℕ) (n : ℕ) → line_end bs ≡ Some n → Front IsEscape bs n
line_end-front [] n h = cc
line_end-front (b ∷ bs) n h =
    elim (cases_Bool (nat_eq b 10)) [
      | inl e ↦
          let one : 1 ≡ n = (let k : Some 1 ≡ Some n = sym (cond-true (nat_eq b 10) _ _ e) ∙ h in cc) in
          record {
            word = 10 ∷ [];
            after = bs;
            holds = IsEscape.line refl;
            whole = ap (λ x. x ∷ bs) (eqb-true b 10 e);
            long = one;
          }
      | inr other ↦
          let k : cond (nat_eq b 13 && first_is 10 bs) (Some 2) None ≡ Some n = sym (cond-false (nat_eq b 10) _ _ other) ∙ h in
          two b bs n (nat_eq b 13) refl k
    ]
  where
    two : (b : ℕ) (bs : List ℕ) (n : ℕ) (t : Bool) → nat_eq b 13 ≡ t → cond (t && first_is 10 bs) (Some 2) None ≡ Some n →
        Front IsEscape (b ∷ bs) n
    two b bs n false e k = cc
    two b bs n true e k = elim (cases_Bool (first_is 10 bs)) [
      | inl f ↦
          let next = first-is-cons 10 bs f in
          let same : 2 ≡ n = (let m : Some 2 ≡ Some n = sym (cond-true (first_is 10 bs) _ _ f) ∙ k in cc) in
          record {
            word = 13 ∷ 10 ∷ [];
            after = next.0;
            holds = IsEscape.return_line refl;
            whole = ap (λ x. x ∷ bs) (eqb-true b 13 e) ∙ ap (λ xs. 13 ∷ xs) next.1;
            long = same;
          }
      | inr f ↦ (let m : None ≡ Some n = sym (cond-false (first_is 10 bs) _ _ f) ∙ k in cc)
    ]

octal_front : (bs : List ℕ) (n : ℕ) → is_octal_code bs ≡ true → 3 ≡ n → Front IsEscape bs n
octal_front [] n h e = absurd (false≢true h)
octal_front (a ∷ []) n h e = absurd (false≢true h)
octal_front (a ∷ b ∷ []) n h e = absurd (false≢true h)
octal_front (a ∷ b ∷ c ∷ bs) n h e =
    record { word = a ∷ b ∷ c ∷ []; after = bs; holds = IsEscape.octal h refl; whole = refl; long = e }

letter_front : (bs : List ℕ) (n : ℕ) → first_passes is_escape_letter bs ≡ true → 1 ≡ n → Front IsEscape bs n
letter_front [] n h e = absurd (false≢true h)
letter_front (a ∷ bs) n h e = record { word = a ∷ []; after = bs; holds = IsEscape.letter h refl; whole = refl; long = e }

some_same : (a n : ℕ) → Some a ≡ Some n → a ≡ n
some_same a n h = cc

escape-front : (bs : List ℕ) (n : ℕ) → escape_length bs ≡ Some n → Front IsEscape bs n
escape-front bs n h =
    elim (cases_Bool (first_passes is_escape_letter bs)) [
      | inl e ↦ letter_front bs n e (some_same 1 n (sym (cond-true (first_passes is_escape_letter bs) _ _ e) ∙ h))
      | inr other ↦ elim (cases_Bool (is_octal_code bs)) [
        | inl e ↦ octal_front bs n e (some_same 3 n (sym (cond-true (is_octal_code bs) _ _ e)
            ∙ sym (cond-false (first_passes is_escape_letter bs) _ _ other) ∙ h))
        | inr not_octal ↦ line_end-front bs n (sym (cond-false (is_octal_code bs) _ _ not_octal)
            ∙ sym (cond-false (first_passes is_escape_letter bs) _ _ other) ∙ h)
      ]
    ]

-- characters and escapes
plain_parts : (x y z u : Bool) → not (x || y || z || u) ≡ true → ((x || y || z) ≡ false) × (u ≡ false)
plain_parts true y z u h = absurd (false≢true h)
plain_parts false true z u h = absurd (false≢true h)
plain_parts false false true u h = absurd (false≢true h)
plain_parts false false false true h = absurd (false≢true h)
plain_parts false false false false h = (refl, refl)

plain_from : (x y z u : Bool) → (x || y || z) ≡ false → u ≡ false → not (x || y || z || u) ≡ true
plain_from true y z u h k = absurd (true≢false h)
plain_from false true z u h k = absurd (true≢false h)
plain_from false false true u h k = absurd (true≢false h)
plain_from false false false true h k = absurd (true≢false k)
plain_from false false false false h k = refl

or3-first : (x y z : Bool) → x ≡ true → (x || y || z) ≡ true
or3-first true y z h = refl
or3-first false y z h = absurd (false≢true h)

-- a quote that is no backslash
quote_stops : (q : ℕ) (after : List ℕ) → char_length q (q ∷ after) ≡ None
quote_stops q after = cond-true (nat_eq q q || nat_eq q 10 || nat_eq q 0) _ _ (or3-first (nat_eq q q) _ _ (eq-self q))

char_plain : (q b : ℕ) (rest : List ℕ) → is_plain q b ≡ true → char_length q (b ∷ rest) ≡ Some 1
char_plain q b rest h =
    let p = plain_parts (nat_eq b q) (nat_eq b 10) (nat_eq b 0) (nat_eq b 92) h in
    cond-false (nat_eq b q || nat_eq b 10 || nat_eq b 0) _ _ p.0 ∙ cond-false (nat_eq b 92) _ _ p.1

char_escape : (q : ℕ) (rest : List ℕ) (n : ℕ) → nat_eq 92 q ≡ false → escape_length rest ≡ Some n →
    char_length q (92 ∷ rest) ≡ Some (suc n)
char_escape q rest n nq e =
    cond-false (nat_eq 92 q || false || false) _ _ (ap (λ t. t || false || false) nq)
    ∙ ap (option_map (λ m. 1 + m)) e ∙ (let one : 1 + n ≡ suc n = omega arith in ap Some one)

pub text-run : (q : ℕ) → nat_eq 92 q ≡ false → {text : List ℕ} → IsText q text → (after : List ℕ) →
    (run_of (char_length q) (text ++ q ∷ after)).bytes ≡ length text
text-run q nq IsText.none after = ap (λ r. r.bytes) (run-none (char_length q) (q ∷ after) (quote_stops q after))
text-run q nq (IsText.plain {b = b} {bs = bs} h more) after =
    let rest : (run_of (char_length q) (bs ++ q ∷ after)).bytes ≡ length bs = text-run q nq more after in
    let on = run-append (char_length q) (b ∷ []) (bs ++ q ∷ after) (omega arith) (char_plain q b (bs ++ q ∷ after) h) in
    let bytes : (run_of (char_length q) (b ∷ (bs ++ q ∷ after))).bytes ≡ 1 + (run_of (char_length q) (bs ++ q ∷ after)).bytes =
    ap (λ r. r.bytes) on in
    omega arith
text-run q nq (IsText.escape {e = e} {bs = bs} {w = w} esc more is) after =
    let rest : (run_of (char_length q) (bs ++ q ∷ after)).bytes ≡ length bs = text-run q nq more after in
    let piece : char_length q (92 ∷ (e ++ (bs ++ q ∷ after))) ≡ Some (suc (length e)) =
    char_escape q (e ++ (bs ++ q ∷ after)) (length e) nq (escape-exact esc (bs ++ q ∷ after)) in
    let bytes : (run_of (char_length q) (92 ∷ (e ++ (bs ++ q ∷ after)))).bytes ≡ suc (length e) + (run_of (char_length q) (bs ++ q ∷ after)).bytes =
    ap (λ r. r.bytes) (run-append (char_length q) (92 ∷ e) (bs ++ q ∷ after) (omega arith) piece) in
    let same : w ++ q ∷ after ≡ 92 ∷ (e ++ (bs ++ q ∷ after)) =
    ap (λ x. x ++ q ∷ after) is ∙ ap (λ x. 92 ∷ x) (append_assoc e bs (q ∷ after)) in
    let len : length (e ++ bs) ≡ length e + length bs = length-append e bs in
    let wide : length w ≡ suc (length (e ++ bs)) = ap length is in
    let goes : (run_of (char_length q) (w ++ q ∷ after)).bytes ≡ (run_of (char_length q) (92 ∷ (e ++ (bs ++ q ∷ after)))).bytes =
    ap (λ x. (run_of (char_length q) x).bytes) same in
    omega arith

text_front : (q : ℕ) {bs : List ℕ} {r k : ℕ} → Steps (char_length q) bs r k → Front (IsText q) bs r
text_front q {bs} (stop stuck er ek) = record { word = []; after = bs; holds = IsText.none; whole = refl; long = sym er }
text_front q {r = rs} (step {b = b} {n = n} {r = r} {bs = bs} e more er ek) =
    let rest : Front (IsText q) (drop n bs) r = text_front q more in
    let allowed = none-first (nat_eq b q || nat_eq b 10 || nat_eq b 0) _ (suc n) e in
    elim (cases_Bool (nat_eq b 92)) [
      | inl slash ↦
          let m = map-some 1 (suc n) (escape_length bs) (sym (cond-true (nat_eq b 92) _ _ slash) ∙ allowed.1) in
          let esc : Front IsEscape bs n = escape-front bs n (m.1 ∙ (let same : m.0 ≡ n = (let k : 1 + m.0 ≡ suc n = m.2 in omega arith) in ap Some same)) in
          let next : esc.after ≡ rest.word ++ rest.after = sym (front-rest esc) ∙ rest.whole in
          let len : length (esc.word ++ rest.word) ≡ length esc.word + length rest.word = length-append esc.word rest.word in
          let l1 : length esc.word ≡ n = esc.long in
          let l2 : length rest.word ≡ r = rest.long in
          record {
            word = 92 ∷ (esc.word ++ rest.word);
            after = rest.after;
            holds = IsText.escape esc.holds rest.holds refl;
            whole =
                ap (λ x. x ∷ bs) (eqb-true b 92 slash)
                ∙ ap (λ xs. 92 ∷ xs) (esc.whole ∙ ap (λ xs. esc.word ++ xs) next ∙ sym (append_assoc esc.word rest.word rest.after));
            long = omega arith;
          }
      | inr other ↦
          let zero_is : n ≡ 0 = (let k : 1 ≡ suc n = some_same 1 (suc n) (sym (cond-false (nat_eq b 92) _ _ other) ∙ allowed.1) in omega arith) in
          let next : bs ≡ rest.word ++ rest.after = sym (ap (λ m. drop m bs) zero_is) ∙ rest.whole in
          let l2 : length rest.word ≡ r = rest.long in
          record {
            word = b ∷ rest.word;
            after = rest.after;
            holds = IsText.plain (plain_from (nat_eq b q) (nat_eq b 10) (nat_eq b 0) (nat_eq b 92) allowed.0 other) rest.holds;
            whole = ap (λ xs. b ∷ xs) next;
            long = omega arith;
          }
    ]

-- a text and its closing quote
pub record Quoted (q : ℕ) (bs : List ℕ) (n : ℕ) : Type 0 where
  pub text : List ℕ
  pub after : List ℕ
  pub holds : IsText q text
  pub whole : bs ≡ text ++ q ∷ after
  pub long : n ≡ length text + 1

pub quoted-exact : (q : ℕ) → nat_eq 92 q ≡ false → {text : List ℕ} → IsText q text → (after : List ℕ) →
    quoted_length q (text ++ q ∷ after) ≡ Some (length text + 1)
quoted-exact q nq {text} t after =
    let run : (run_of (char_length q) (text ++ q ∷ after)).bytes ≡ length text = text-run q nq t after in
    let behind : drop (run_of (char_length q) (text ++ q ∷ after)).bytes (text ++ q ∷ after) ≡ q ∷ after =
    ap (λ n. drop n (text ++ q ∷ after)) run ∙ drop_at text (q ∷ after) (length text) refl in
    cond-true (first_is q (drop (run_of (char_length q) (text ++ q ∷ after)).bytes (text ++ q ∷ after))) _ _
    (ap (first_is q) behind ∙ eq-self q)
    ∙ ap (λ n. Some (n + 1)) run

pub quoted-front : (q : ℕ) (bs : List ℕ) (n : ℕ) → quoted_length q bs ≡ Some n → Quoted q bs n
quoted-front q bs n h =
    elim (cases_Bool (first_is q (drop (run_of (char_length q) bs).bytes bs))) [
      | inl e ↦
          let f : Front (IsText q) bs (run_of (char_length q) bs).bytes = text_front q (steps (char_length q) refl bs) in
          let next = first-is-cons q (drop (run_of (char_length q) bs).bytes bs) e in
          let same : (run_of (char_length q) bs).bytes + 1 ≡ n =
          some_same _ n (sym (cond-true (first_is q (drop (run_of (char_length q) bs).bytes bs)) _ _ e) ∙ h) in
          let len : length f.word ≡ (run_of (char_length q) bs).bytes = f.long in
          record {
            text = f.word;
            after = next.0;
            holds = f.holds;
            whole = f.whole ∙ ap (λ xs. f.word ++ xs) (sym (front-rest f) ∙ next.1);
            long = omega arith;
          }
      | inr e ↦
          (let k : None ≡ Some n = sym (cond-false (first_is q (drop (run_of (char_length q) bs).bytes bs)) _ _ e) ∙ h in cc)
    ]

-- the empty name
empty_line : (rest : List ℕ) → empty_piece (92 ∷ 10 ∷ rest) ≡ Some 2
empty_line rest = refl

empty_return : (rest : List ℕ) → empty_piece (92 ∷ 13 ∷ 10 ∷ rest) ≡ Some 3
empty_return rest = refl

empty_run : {text : List ℕ} → IsEmptyText text → (after : List ℕ) → (run_of empty_piece (text ++ 39 ∷ after)).bytes ≡ length text
empty_run IsEmptyText.nothing after = ap (λ r. r.bytes) (run-none empty_piece (39 ∷ after) refl)
empty_run (IsEmptyText.line {bs = bs} {w = w} more is) after =
    let rest : (run_of empty_piece (bs ++ 39 ∷ after)).bytes ≡ length bs = empty_run more after in
    let bytes : (run_of empty_piece (92 ∷ 10 ∷ (bs ++ 39 ∷ after))).bytes ≡ 2 + (run_of empty_piece (bs ++ 39 ∷ after)).bytes =
    ap (λ r. r.bytes) (run-append empty_piece (92 ∷ 10 ∷ []) (bs ++ 39 ∷ after) (omega arith) (empty_line (bs ++ 39 ∷ after))) in
    let wide : length w ≡ suc (suc (length bs)) = ap length is in
    let goes : (run_of empty_piece (w ++ 39 ∷ after)).bytes ≡ (run_of empty_piece (92 ∷ 10 ∷ (bs ++ 39 ∷ after))).bytes =
    ap (λ x. (run_of empty_piece (x ++ 39 ∷ after)).bytes) is in
    omega arith
empty_run (IsEmptyText.return_line {bs = bs} {w = w} more is) after =
    let rest : (run_of empty_piece (bs ++ 39 ∷ after)).bytes ≡ length bs = empty_run more after in
    let bytes : (run_of empty_piece (92 ∷ 13 ∷ 10 ∷ (bs ++ 39 ∷ after))).bytes ≡ 3 + (run_of empty_piece (bs ++ 39 ∷ after)).bytes =
    ap (λ r. r.bytes) (run-append empty_piece (92 ∷ 13 ∷ 10 ∷ []) (bs ++ 39 ∷ after) (omega arith) (empty_return (bs ++ 39 ∷ after))) in
    let wide : length w ≡ suc (suc (suc (length bs))) = ap length is in
    let goes : (run_of empty_piece (w ++ 39 ∷ after)).bytes ≡ (run_of empty_piece (92 ∷ 13 ∷ 10 ∷ (bs ++ 39 ∷ after))).bytes =
    ap (λ x. (run_of empty_piece (x ++ 39 ∷ after)).bytes) is in
    omega arith

pub empty-quote : {text : List ℕ} → IsEmptyText text → (after : List ℕ) → is_empty_quote (text ++ 39 ∷ after) ≡ true
empty-quote {text} t after =
    ap (first_is 39) (ap (λ n. drop n (text ++ 39 ∷ after)) (empty_run t after) ∙ drop_at text (39 ∷ after) (length text) refl)

-- an escaped line end
line_front : (bs : List ℕ) (n : ℕ) → line_end bs ≡ Some n →
    ((rest : List ℕ) × (bs ≡ 10 ∷ rest) × (n ≡ 1)) ⊎ ((rest : List ℕ) × (bs ≡ 13 ∷ 10 ∷ rest) × (n ≡ 2))
line_front [] n h = cc
line_front (b ∷ bs) n h =
    elim (cases_Bool (nat_eq b 10)) [
      | inl e ↦ inl (bs, ap (λ x. x ∷ bs) (eqb-true b 10 e), sym (some_same 1 n (sym (cond-true (nat_eq b 10) _ _ e) ∙ h)))
      | inr other ↦ inr (two b bs n (nat_eq b 13) refl (sym (cond-false (nat_eq b 10) _ _ other) ∙ h))
    ]
  where
    two : (b : ℕ) (bs : List ℕ) (n : ℕ) (t : Bool) → nat_eq b 13 ≡ t → cond (t && first_is 10 bs) (Some 2) None ≡ Some n →
        (rest : List ℕ) × (b ∷ bs ≡ 13 ∷ 10 ∷ rest) × (n ≡ 2)
    two b bs n false e k = cc
    two b bs n true e k = elim (cases_Bool (first_is 10 bs)) [
      | inl f ↦
          let next = first-is-cons 10 bs f in (
            next.0,
            ap (λ x. x ∷ bs) (eqb-true b 13 e) ∙ ap (λ xs. 13 ∷ xs) next.1,
            sym (some_same 2 n (sym (cond-true (first_is 10 bs) _ _ f) ∙ k)),
          )
      | inr f ↦ (let m : None ≡ Some n = sym (cond-false (first_is 10 bs) _ _ f) ∙ k in cc)
    ]

empty_front : {bs : List ℕ} {r k : ℕ} → Steps empty_piece bs r k → Front IsEmptyText bs r
empty_front {bs} (stop stuck er ek) = record { word = []; after = bs; holds = IsEmptyText.nothing; whole = refl; long = sym er }
empty_front {r = rs} (step {b = b} {n = n} {r = r} {bs = bs} e more er ek) =
    let rest : Front IsEmptyText (drop n bs) r = empty_front more in
    let l2 : length rest.word ≡ r = rest.long in
    elim (cases_Bool (nat_eq b 92)) [
      | inl slash ↦
          let m = map-some 1 (suc n) (line_end bs) (sym (cond-true (nat_eq b 92) _ _ slash) ∙ e) in
          let same : m.0 ≡ n = (let k : 1 + m.0 ≡ suc n = m.2 in omega arith) in
          elim (line_front bs n (m.1 ∙ ap Some same)) [
            | inl (xs, is, one) ↦
                let next : xs ≡ rest.word ++ rest.after = sym (ap (λ k. drop k bs) one ∙ ap (drop 1) is) ∙ rest.whole in
                record {
                  word = 92 ∷ 10 ∷ rest.word;
                  after = rest.after;
                  holds = IsEmptyText.line rest.holds refl;
                  whole = ap (λ x. x ∷ bs) (eqb-true b 92 slash) ∙ ap (λ ys. 92 ∷ ys) (is ∙ ap (λ ys. 10 ∷ ys) next);
                  long = omega arith;
                }
            | inr (xs, is, two) ↦
                let next : xs ≡ rest.word ++ rest.after = sym (ap (λ k. drop k bs) two ∙ ap (drop 2) is) ∙ rest.whole in
                record {
                  word = 92 ∷ 13 ∷ 10 ∷ rest.word;
                  after = rest.after;
                  holds = IsEmptyText.return_line rest.holds refl;
                  whole = ap (λ x. x ∷ bs) (eqb-true b 92 slash) ∙ ap (λ ys. 92 ∷ ys) (is ∙ ap (λ ys. 13 ∷ 10 ∷ ys) next);
                  long = omega arith;
                }
          ]
      | inr other ↦ (let k : None ≡ Some (suc n) = sym (cond-false (nat_eq b 92) _ _ other) ∙ e in cc)
    ]

empty_is_text : {text : List ℕ} → IsEmptyText text → IsText 39 text
empty_is_text IsEmptyText.nothing = IsText.none
empty_is_text (IsEmptyText.line more is) = IsText.escape (IsEscape.line refl) (empty_is_text more) is
empty_is_text (IsEmptyText.return_line more is) = IsText.escape (IsEscape.return_line refl) (empty_is_text more) is

-- the text up to the first closing quote is one
pub one-text : (q : ℕ) → nat_eq 92 q ≡ false → {s t : List ℕ} → IsText q s → IsText q t → (a b : List ℕ) →
    s ++ q ∷ a ≡ t ++ q ∷ b → s ≡ t
one-text q nq {s} {t} hs ht a b e =
    let ls : (run_of (char_length q) (s ++ q ∷ a)).bytes ≡ length s = text-run q nq hs a in
    let lt : (run_of (char_length q) (t ++ q ∷ b)).bytes ≡ length t = text-run q nq ht b in
    let same : (run_of (char_length q) (s ++ q ∷ a)).bytes ≡ (run_of (char_length q) (t ++ q ∷ b)).bytes =
    ap (λ xs. (run_of (char_length q) xs).bytes) e in
    let long : length t ≡ length s = omega arith in
    sym (take_at s (q ∷ a) (length s) refl) ∙ ap (take (length s)) e ∙ take_at t (q ∷ b) (length s) long

not_empty_quote : {text : List ℕ} → IsText 39 text → ¬ (IsEmptyText text) → (after : List ℕ) →
    is_empty_quote (text ++ 39 ∷ after) ≡ false
not_empty_quote {text} t some after =
    false_from_ne_true (is_empty_quote (text ++ 39 ∷ after)) (λ h.
    let bs = text ++ 39 ∷ after in
    let f : Front IsEmptyText (text ++ 39 ∷ after) (run_of empty_piece (text ++ 39 ∷ after)).bytes =
    empty_front (steps empty_piece refl (text ++ 39 ∷ after)) in
    let next = first-is-cons 39 (drop (run_of empty_piece (text ++ 39 ∷ after)).bytes (text ++ 39 ∷ after)) h in
    let whole : f.word ++ 39 ∷ next.0 ≡ text ++ 39 ∷ after =
    sym (f.whole ∙ ap (λ xs. f.word ++ xs) (sym (front-rest f) ∙ next.1)) in
    some (subst IsEmptyText (one-text 39 refl (empty_is_text f.holds) t next.0 after whole) f.holds))

-- a quoted part of a name, behind its first quote
pub quoted-part-exact : {text : List ℕ} → IsText 39 text → ¬ (IsEmptyText text) → (after : List ℕ) →
    quoted_part (text ++ 39 ∷ after) ≡ Some (length text + 2)
quoted-part-exact {text} t some after =
    cond-false (is_empty_quote (text ++ 39 ∷ after)) _ _ (not_empty_quote t some after)
    ∙ ap (option_map (λ n. 1 + n)) (quoted-exact 39 refl t after)
    ∙ (let e : 1 + (length text + 1) ≡ length text + 2 = omega arith in ap Some e)

pub quoted-part-front : (bs : List ℕ) (n : ℕ) → quoted_part bs ≡ Some n →
    (text : List ℕ) × (after : List ℕ) × IsText 39 text × (¬ (IsEmptyText text)) × (bs ≡ text ++ 39 ∷ after) × (n ≡ length text + 2)
quoted-part-front bs n h =
    let allowed = none-first (is_empty_quote bs) _ n h in
    let m = map-some 1 n (quoted_length 39 bs) allowed.1 in
    let f : Quoted 39 bs m.0 = quoted-front 39 bs m.0 m.1 in
    let len : m.0 ≡ length f.text + 1 = f.long in
    let sum : 1 + m.0 ≡ n = m.2 in
    let long : n ≡ length f.text + 2 = omega arith in (
      f.text,
      f.after,
      f.holds,
      (λ empty. true≢false (sym (empty-quote empty f.after) ∙ sym (ap is_empty_quote f.whole) ∙ allowed.0)),
      f.whole,
      long,
    )
