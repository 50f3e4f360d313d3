-- What the definitions of the spellings find where one stands: at an escape, a text in quotes, an identifier.
use Rattle.std.proofs.Common.{◌≡◌, ℕ, zero, suc, ◌+◌, ◌<◌, ◌≤◌, List, [], ◌∷◌, length, drop, Option, None, Some, refl, ap, sym, ◌∙◌, arith, length-drop, Bool, true, false, cond, not, ◌&&◌, ◌||◌, nat_eq, inl, inr, ◌++◌, take, get_or, length-append, take_at, drop_at, true≢false, ne_eqb, ◌⊎◌, subst, append_assoc}
use Rattle.il_lexer.specs.declared.runs.Run.{Run}
use Rattle.il_lexer.specs.Runs.{no_piece, joined, from_piece, run_within, run_of, front}
use Rattle.std.proofs.lemmas.Bool.{cases_Bool, cond-true, cond-false, eqb-true, false≢true, false_from_ne_true}
use Rattle.std.proofs.lemmas.List.Sums.{take_while-cons}
use Rattle.std.specs.Option.{option_map}
use Rattle.il_lexer.specs.Classes.{first_passes, first_is, is_id_start, is_id_part}
use Rattle.il_lexer.specs.Spelled.{Each, IsEscape, IsText, is_plain, IsEmptyText, IsId}
use Rattle.il_lexer.specs.Quotes.{line_end, is_octal_code, is_escape_letter, escape_length, char_length, quoted_length}
use Rattle.il_lexer.specs.Spellings.{empty_piece, is_empty_quote, quoted_part, id_length}

same_more : (o : Option ℕ) (f g : ℕ → Run) → ((n : ℕ) → f (suc n) ≡ g (suc n)) → from_piece o f ≡ from_piece o g
same_more None f g h = refl
same_more (Some zero) f g h = refl
same_more (Some (suc n)) f g h = ap (joined (suc n)) (h n)

-- any number of turns that is enough gives the same
enough : (piece : List ℕ → Option ℕ) (t u : ℕ) (bs : List ℕ) → length bs ≤ t → length bs ≤ u →
    run_within t piece bs ≡ run_within u piece bs
enough piece zero zero bs a b = refl
enough piece zero (suc u) [] a b = refl
enough piece zero (suc u) (x ∷ bs) a b = absurd (omega arith)
enough piece (suc t) zero [] a b = refl
enough piece (suc t) zero (x ∷ bs) a b = absurd (omega arith)
enough piece (suc t) (suc u) [] a b = refl
enough piece (suc t) (suc u) (x ∷ bs) a b =
    same_more (piece (x ∷ bs)) _ _
    (λ n.
    let left : length (drop n bs) ≤ t = omega (arith, length-drop n bs) in
    let right : length (drop n bs) ≤ u = omega (arith, length-drop n bs) in
    enough piece t u (drop n bs) left right)

first_piece : (piece : List ℕ → Option ℕ) (b : ℕ) (bs : List ℕ) →
    run_of piece (b ∷ bs) ≡ from_piece (piece (b ∷ bs)) (λ n. run_of piece (drop n (b ∷ bs)))
unfolding run_of
first_piece piece b bs =
    same_more (piece (b ∷ bs)) _ _
    (λ n.
    let left : length (drop n bs) ≤ length bs = omega (arith, length-drop n bs) in
    let right : length (drop n bs) ≤ length (drop n bs) = omega arith in
    enough piece (length bs) (length (drop n bs)) (drop n bs) left right)

-- without one there is none
pub run-none : (piece : List ℕ → Option ℕ) (bs : List ℕ) → piece bs ≡ None → run_of piece bs ≡ no_piece
unfolding run_of
run-none piece [] e = refl
run-none piece (b ∷ bs) e = ap (λ o. from_piece o (λ m. run_within (length bs) piece (drop m (b ∷ bs)))) e

-- a piece at the front, and the run behind it
pub run-piece : (piece : List ℕ → Option ℕ) (b n : ℕ) (bs : List ℕ) → piece (b ∷ bs) ≡ Some (suc n) →
    run_of piece (b ∷ bs) ≡ joined (suc n) (run_of piece (drop n bs))
run-piece piece b n bs e = first_piece piece b bs ∙ ap (λ o. from_piece o (λ m. run_of piece (drop m (b ∷ bs)))) e

-- a front of so many bytes that is in a set
pub record Front (P : List ℕ → Type 0) (bs : List ℕ) (n : ℕ) : Type 0 where
  pub word : List ℕ
  pub after : List ℕ
  pub holds : P word
  pub whole : bs ≡ word ++ after
  pub long : length word ≡ n

pub front-rest : {P : List ℕ → Type 0} {bs : List ℕ} {n : ℕ} → (f : Front P bs n) → drop n bs ≡ f.after
front-rest {bs = bs} {n = n} f = ap (drop n) f.whole ∙ drop_at f.word f.after n f.long

pub first-is-cons : (x : ℕ) (bs : List ℕ) → first_is x bs ≡ true → (rest : List ℕ) × (bs ≡ x ∷ rest)
first-is-cons x [] h = absurd (false≢true h)
first-is-cons x (b ∷ bs) h = (bs, ap (λ y. y ∷ bs) (eqb-true b x h))

pub heads-same : (a b : ℕ) (xs ys : List ℕ) → a ∷ xs ≡ b ∷ ys → a ≡ b
heads-same a b xs ys e = ap (λ l. get_or l 0 0) e

pub tails-same : (a b : ℕ) (xs ys : List ℕ) → a ∷ xs ≡ b ∷ ys → xs ≡ ys
tails-same a b xs ys e = ap (drop 1) e

-- bytes that a test tells apart are two
pub differ : (p : ℕ → Bool) (b c : ℕ) → p b ≡ true → p c ≡ false → nat_eq b c ≡ false
differ p b c hb hc = ne_eqb b c (λ e. true≢false (sym hb ∙ ap p e ∙ hc))

pub eq-self : (q : ℕ) → nat_eq q q ≡ true
eq-self q = grind arith

pub map-some : (k n : ℕ) (o : Option ℕ) → option_map (λ m. k + m) o ≡ Some n → (m : ℕ) × (o ≡ Some m) × (k + m ≡ n)
map-some k n None h = cc
map-some k n (Some m) h = (m, refl, cc)

-- fronts that pass a test
pub front-true : (p : ℕ → Bool) (b : ℕ) (bs : List ℕ) → p b ≡ true → front p (b ∷ bs) ≡ suc (front p bs)
front-true p b bs h = ap length (take_while-cons p b bs ∙ cond-true (p b) _ _ h)

pub front-false : (p : ℕ → Bool) (b : ℕ) (bs : List ℕ) → p b ≡ false → front p (b ∷ bs) ≡ 0
front-false p b bs h = ap length (take_while-cons p b bs ∙ cond-false (p b) _ _ h)

pub front-each : (p : ℕ → Bool) (w after : List ℕ) → Each p w → front p (w ++ after) ≡ length w + front p after
front-each p [] after h = omega arith
front-each p (b ∷ w) after h =
    let more : front p (w ++ after) ≡ length w + front p after = front-each p w after h.1 in
    let one : front p (b ∷ (w ++ after)) ≡ suc (front p (w ++ after)) = front-true p b (w ++ after) h.0 in
    omega arith

pub front-stops : (p : ℕ → Bool) (bs : List ℕ) → first_passes p bs ≡ false → front p bs ≡ 0
front-stops p [] h = refl
front-stops p (b ∷ bs) h = front-false p b bs h

-- a run, piece by piece
abbrev pub is_piece : Option ℕ → Bool
is_piece None = false
is_piece (Some zero) = false
is_piece (Some (suc n)) = true

pub data Steps (piece : List ℕ → Option ℕ) : List ℕ → ℕ → ℕ → Type 0 where
  stop : {bs : List ℕ} {r k : ℕ} → is_piece (piece bs) ≡ false → r ≡ 0 → k ≡ 0 → Steps piece bs r k
  step : {b n r k rs ks : ℕ} {bs : List ℕ} → piece (b ∷ bs) ≡ Some (suc n) → Steps piece (drop n bs) r k → rs ≡ suc (n + r) →
      ks ≡ suc k → Steps piece (b ∷ bs) rs ks

abbrev StepsOf : (List ℕ → Option ℕ) → List ℕ → Run → Type 0
StepsOf piece bs run = Steps piece bs run.bytes run.pieces

step_on : (piece : List ℕ → Option ℕ) (b : ℕ) (bs : List ℕ) (more : ℕ → Run) →
    ((n : ℕ) → StepsOf piece (drop n bs) (more (suc n))) → (o : Option ℕ) → piece (b ∷ bs) ≡ o →
    StepsOf piece (b ∷ bs) (from_piece o more)
step_on piece b bs more rest None e = stop (ap is_piece e) refl refl
step_on piece b bs more rest (Some zero) e = stop (ap is_piece e) refl refl
step_on piece b bs more rest (Some (suc n)) e = step e (rest n) (omega arith) (omega arith)

steps_within : (piece : List ℕ → Option ℕ) → piece [] ≡ None → (turns : ℕ) (bs : List ℕ) → length bs ≤ turns →
    StepsOf piece bs (run_within turns piece bs)
steps_within piece e zero [] le = stop (ap is_piece e) refl refl
steps_within piece e zero (b ∷ bs) le = absurd (omega arith)
steps_within piece e (suc turns) [] le = stop (ap is_piece e) refl refl
steps_within piece e (suc turns) (b ∷ bs) le =
    step_on piece b bs (λ n. run_within turns piece (drop n (b ∷ bs)))
    (λ n. let short : length (drop n bs) ≤ turns = omega (arith, length-drop n bs) in steps_within piece e turns (drop n bs) short)
    (piece (b ∷ bs)) refl

pub steps : (piece : List ℕ → Option ℕ) → piece [] ≡ None → (bs : List ℕ) →
    Steps piece bs (run_of piece bs).bytes (run_of piece bs).pieces
unfolding run_of
steps piece e bs = let le : length bs ≤ length bs = omega arith in steps_within piece e (length bs) bs le

-- a piece of known length before the rest
pub run-append : (piece : List ℕ → Option ℕ) (w rest : List ℕ) → 0 < length w → piece (w ++ rest) ≡ Some (length w) →
    run_of piece (w ++ rest) ≡ joined (length w) (run_of piece rest)
run-append piece [] rest lt e = absurd (omega arith)
run-append piece (b ∷ w) rest lt e =
    run-piece piece b (length w) (w ++ rest) e ∙ ap (λ xs. joined (suc (length w)) (run_of piece xs)) (drop_at w rest (length w) refl)

-- what a backslash takes along
and4-false : (x y z u : Bool) → x ≡ false → (x && y && z && u) ≡ false
and4-false true y z u h = absurd (true≢false h)
and4-false false y z u h = refl

no_octal : (b : ℕ) (bs : List ℕ) → (nat_eq b 48 || nat_eq b 49) ≡ false → is_octal_code (b ∷ bs) ≡ false
no_octal b [] h = refl
no_octal b (c ∷ []) h = refl
no_octal b (c ∷ d ∷ bs) h = and4-false _ _ _ _ h

octal_first : (b : ℕ) (x y z : Bool) → ((nat_eq b 48 || nat_eq b 49) && x && y && z) ≡ true → is_escape_letter b ≡ false
octal_first b x y z h =
    elim (cases_Bool (nat_eq b 48)) [
      | inl e ↦ ap is_escape_letter (eqb-true b 48 e)
      | inr n ↦ elim (cases_Bool (nat_eq b 49)) [
        | inl e ↦ ap is_escape_letter (eqb-true b 49 e)
        | inr m ↦ absurd (false≢true (sym (and4-false (nat_eq b 48 || nat_eq b 49) x y z
            (ap (λ t. t || nat_eq b 49) n ∙ m)) ∙ h))
      ]
    ]

pub escape-exact : {e : List ℕ} → IsEscape e → (rest : List ℕ) → escape_length (e ++ rest) ≡ Some (length e)
escape-exact {e} (IsEscape.letter {a = a} h is) rest =
    subst (λ w. escape_length (w ++ rest) ≡ Some (length w)) (sym is) (cond-true (is_escape_letter a) _ _ h)
escape-exact {e} (IsEscape.octal {a = a} {b = b} {c = c} h is) rest =
    subst (λ w. escape_length (w ++ rest) ≡ Some (length w)) (sym is)
    (cond-false (is_escape_letter a) _ _ (octal_first a _ _ _ h) ∙ cond-true (is_octal_code (a ∷ b ∷ c ∷ rest)) _ _ h)
escape-exact {e} (IsEscape.line is) rest =
    subst (λ w. escape_length (w ++ rest) ≡ Some (length w)) (sym is)
    (cond-false (is_octal_code (10 ∷ rest)) _ _ (no_octal 10 rest refl))
escape-exact {e} (IsEscape.return_line is) rest =
    subst (λ w. escape_length (w ++ rest) ≡ Some (length w)) (sym is)
    (cond-false (is_octal_code (13 ∷ 10 ∷ rest)) _ _ (no_octal 13 (10 ∷ rest) refl))

some_same : (a n : ℕ) → Some a ≡ Some n → a ≡ n
some_same a n h = cc

-- characters and escapes
plain_parts : (x y z u : Bool) → not (x || y || z || u) ≡ true → ((x || y || z) ≡ false) × (u ≡ false)
plain_parts true y z u h = absurd (false≢true h)
plain_parts false true z u h = absurd (false≢true h)
plain_parts false false true u h = absurd (false≢true h)
plain_parts false false false true h = absurd (false≢true h)
plain_parts false false false false h = (refl, refl)

or3-first : (x y z : Bool) → x ≡ true → (x || y || z) ≡ true
or3-first true y z h = refl
or3-first false y z h = absurd (false≢true h)

-- a quote that is no backslash
quote_stops : (q : ℕ) (after : List ℕ) → char_length q (q ∷ after) ≡ None
quote_stops q after = cond-true (nat_eq q q || nat_eq q 10 || nat_eq q 0) _ _ (or3-first (nat_eq q q) _ _ (eq-self q))

char_plain : (q b : ℕ) (rest : List ℕ) → is_plain q b ≡ true → char_length q (b ∷ rest) ≡ Some 1
char_plain q b rest h =
    let p = plain_parts (nat_eq b q) (nat_eq b 10) (nat_eq b 0) (nat_eq b 92) h in
    cond-false (nat_eq b q || nat_eq b 10 || nat_eq b 0) _ _ p.0 ∙ cond-false (nat_eq b 92) _ _ p.1

char_escape : (q : ℕ) (rest : List ℕ) (n : ℕ) → nat_eq 92 q ≡ false → escape_length rest ≡ Some n →
    char_length q (92 ∷ rest) ≡ Some (suc n)
char_escape q rest n nq e =
    cond-false (nat_eq 92 q || false || false) _ _ (ap (λ t. t || false || false) nq)
    ∙ ap (option_map (λ m. 1 + m)) e ∙ (let one : 1 + n ≡ suc n = omega arith in ap Some one)

pub text-run : (q : ℕ) → nat_eq 92 q ≡ false → {text : List ℕ} → IsText q text → (after : List ℕ) →
    (run_of (char_length q) (text ++ q ∷ after)).bytes ≡ length text
text-run q nq IsText.none after = ap (λ r. r.bytes) (run-none (char_length q) (q ∷ after) (quote_stops q after))
text-run q nq (IsText.plain {b = b} {bs = bs} h more) after =
    let rest : (run_of (char_length q) (bs ++ q ∷ after)).bytes ≡ length bs = text-run q nq more after in
    let on = run-append (char_length q) (b ∷ []) (bs ++ q ∷ after) (omega arith) (char_plain q b (bs ++ q ∷ after) h) in
    let bytes : (run_of (char_length q) (b ∷ (bs ++ q ∷ after))).bytes ≡ 1 + (run_of (char_length q) (bs ++ q ∷ after)).bytes =
    ap (λ r. r.bytes) on in
    omega arith
text-run q nq (IsText.escape {e = e} {bs = bs} {w = w} esc more is) after =
    let rest : (run_of (char_length q) (bs ++ q ∷ after)).bytes ≡ length bs = text-run q nq more after in
    let piece : char_length q (92 ∷ (e ++ (bs ++ q ∷ after))) ≡ Some (suc (length e)) =
    char_escape q (e ++ (bs ++ q ∷ after)) (length e) nq (escape-exact esc (bs ++ q ∷ after)) in
    let bytes : (run_of (char_length q) (92 ∷ (e ++ (bs ++ q ∷ after)))).bytes ≡ suc (length e) + (run_of (char_length q) (bs ++ q ∷ after)).bytes =
    ap (λ r. r.bytes) (run-append (char_length q) (92 ∷ e) (bs ++ q ∷ after) (omega arith) piece) in
    let same : w ++ q ∷ after ≡ 92 ∷ (e ++ (bs ++ q ∷ after)) =
    ap (λ x. x ++ q ∷ after) is ∙ ap (λ x. 92 ∷ x) (append_assoc e bs (q ∷ after)) in
    let len : length (e ++ bs) ≡ length e + length bs = length-append e bs in
    let wide : length w ≡ suc (length (e ++ bs)) = ap length is in
    let goes : (run_of (char_length q) (w ++ q ∷ after)).bytes ≡ (run_of (char_length q) (92 ∷ (e ++ (bs ++ q ∷ after)))).bytes =
    ap (λ x. (run_of (char_length q) x).bytes) same in
    omega arith

pub quoted-exact : (q : ℕ) → nat_eq 92 q ≡ false → {text : List ℕ} → IsText q text → (after : List ℕ) →
    quoted_length q (text ++ q ∷ after) ≡ Some (length text + 1)
quoted-exact q nq {text} t after =
    let run : (run_of (char_length q) (text ++ q ∷ after)).bytes ≡ length text = text-run q nq t after in
    let behind : drop (run_of (char_length q) (text ++ q ∷ after)).bytes (text ++ q ∷ after) ≡ q ∷ after =
    ap (λ n. drop n (text ++ q ∷ after)) run ∙ drop_at text (q ∷ after) (length text) refl in
    cond-true (first_is q (drop (run_of (char_length q) (text ++ q ∷ after)).bytes (text ++ q ∷ after))) _ _
    (ap (first_is q) behind ∙ eq-self q)
    ∙ ap (λ n. Some (n + 1)) run

-- an escaped line end
line_front : (bs : List ℕ) (n : ℕ) → line_end bs ≡ Some n →
    ((rest : List ℕ) × (bs ≡ 10 ∷ rest) × (n ≡ 1)) ⊎ ((rest : List ℕ) × (bs ≡ 13 ∷ 10 ∷ rest) × (n ≡ 2))
line_front [] n h = cc
line_front (b ∷ bs) n h =
    elim (cases_Bool (nat_eq b 10)) [
      | inl e ↦ inl (bs, ap (λ x. x ∷ bs) (eqb-true b 10 e), sym (some_same 1 n (sym (cond-true (nat_eq b 10) _ _ e) ∙ h)))
      | inr other ↦ inr (two b bs n (nat_eq b 13) refl (sym (cond-false (nat_eq b 10) _ _ other) ∙ h))
    ]
  where
    two : (b : ℕ) (bs : List ℕ) (n : ℕ) (t : Bool) → nat_eq b 13 ≡ t → cond (t && first_is 10 bs) (Some 2) None ≡ Some n →
        (rest : List ℕ) × (b ∷ bs ≡ 13 ∷ 10 ∷ rest) × (n ≡ 2)
    two b bs n false e k = cc
    two b bs n true e k = elim (cases_Bool (first_is 10 bs)) [
      | inl f ↦
          let next = first-is-cons 10 bs f in (
            next.0,
            ap (λ x. x ∷ bs) (eqb-true b 13 e) ∙ ap (λ xs. 13 ∷ xs) next.1,
            sym (some_same 2 n (sym (cond-true (first_is 10 bs) _ _ f) ∙ k)),
          )
      | inr f ↦ (let m : None ≡ Some n = sym (cond-false (first_is 10 bs) _ _ f) ∙ k in cc)
    ]

empty_front : {bs : List ℕ} {r k : ℕ} → Steps empty_piece bs r k → Front IsEmptyText bs r
empty_front {bs} (stop stuck er ek) = record { word = []; after = bs; holds = IsEmptyText.nothing; whole = refl; long = sym er }
empty_front {r = rs} (step {b = b} {n = n} {r = r} {bs = bs} e more er ek) =
    let rest : Front IsEmptyText (drop n bs) r = empty_front more in
    let l2 : length rest.word ≡ r = rest.long in
    elim (cases_Bool (nat_eq b 92)) [
      | inl slash ↦
          let m = map-some 1 (suc n) (line_end bs) (sym (cond-true (nat_eq b 92) _ _ slash) ∙ e) in
          let same : m.0 ≡ n = (let k : 1 + m.0 ≡ suc n = m.2 in omega arith) in
          elim (line_front bs n (m.1 ∙ ap Some same)) [
            | inl (xs, is, one) ↦
                let next : xs ≡ rest.word ++ rest.after = sym (ap (λ k. drop k bs) one ∙ ap (drop 1) is) ∙ rest.whole in
                record {
                  word = 92 ∷ 10 ∷ rest.word;
                  after = rest.after;
                  holds = IsEmptyText.line rest.holds refl;
                  whole = ap (λ x. x ∷ bs) (eqb-true b 92 slash) ∙ ap (λ ys. 92 ∷ ys) (is ∙ ap (λ ys. 10 ∷ ys) next);
                  long = omega arith;
                }
            | inr (xs, is, two) ↦
                let next : xs ≡ rest.word ++ rest.after = sym (ap (λ k. drop k bs) two ∙ ap (drop 2) is) ∙ rest.whole in
                record {
                  word = 92 ∷ 13 ∷ 10 ∷ rest.word;
                  after = rest.after;
                  holds = IsEmptyText.return_line rest.holds refl;
                  whole = ap (λ x. x ∷ bs) (eqb-true b 92 slash) ∙ ap (λ ys. 92 ∷ ys) (is ∙ ap (λ ys. 13 ∷ 10 ∷ ys) next);
                  long = omega arith;
                }
          ]
      | inr other ↦ (let k : None ≡ Some (suc n) = sym (cond-false (nat_eq b 92) _ _ other) ∙ e in cc)
    ]

empty_is_text : {text : List ℕ} → IsEmptyText text → IsText 39 text
empty_is_text IsEmptyText.nothing = IsText.none
empty_is_text (IsEmptyText.line more is) = IsText.escape (IsEscape.line refl) (empty_is_text more) is
empty_is_text (IsEmptyText.return_line more is) = IsText.escape (IsEscape.return_line refl) (empty_is_text more) is

-- the text up to the first closing quote is one
pub one-text : (q : ℕ) → nat_eq 92 q ≡ false → {s t : List ℕ} → IsText q s → IsText q t → (a b : List ℕ) →
    s ++ q ∷ a ≡ t ++ q ∷ b → s ≡ t
one-text q nq {s} {t} hs ht a b e =
    let ls : (run_of (char_length q) (s ++ q ∷ a)).bytes ≡ length s = text-run q nq hs a in
    let lt : (run_of (char_length q) (t ++ q ∷ b)).bytes ≡ length t = text-run q nq ht b in
    let same : (run_of (char_length q) (s ++ q ∷ a)).bytes ≡ (run_of (char_length q) (t ++ q ∷ b)).bytes =
    ap (λ xs. (run_of (char_length q) xs).bytes) e in
    let long : length t ≡ length s = omega arith in
    sym (take_at s (q ∷ a) (length s) refl) ∙ ap (take (length s)) e ∙ take_at t (q ∷ b) (length s) long

not_empty_quote : {text : List ℕ} → IsText 39 text → ¬ (IsEmptyText text) → (after : List ℕ) →
    is_empty_quote (text ++ 39 ∷ after) ≡ false
not_empty_quote {text} t some after =
    false_from_ne_true (is_empty_quote (text ++ 39 ∷ after)) (λ h.
    let bs = text ++ 39 ∷ after in
    let f : Front IsEmptyText (text ++ 39 ∷ after) (run_of empty_piece (text ++ 39 ∷ after)).bytes =
    empty_front (steps empty_piece refl (text ++ 39 ∷ after)) in
    let next = first-is-cons 39 (drop (run_of empty_piece (text ++ 39 ∷ after)).bytes (text ++ 39 ∷ after)) h in
    let whole : f.word ++ 39 ∷ next.0 ≡ text ++ 39 ∷ after =
    sym (f.whole ∙ ap (λ xs. f.word ++ xs) (sym (front-rest f) ∙ next.1)) in
    some (subst IsEmptyText (one-text 39 refl (empty_is_text f.holds) t next.0 after whole) f.holds))

-- a quoted part of a name, behind its first quote
pub quoted-part-exact : {text : List ℕ} → IsText 39 text → ¬ (IsEmptyText text) → (after : List ℕ) →
    quoted_part (text ++ 39 ∷ after) ≡ Some (length text + 2)
quoted-part-exact {text} t some after =
    cond-false (is_empty_quote (text ++ 39 ∷ after)) _ _ (not_empty_quote t some after)
    ∙ ap (option_map (λ n. 1 + n)) (quoted-exact 39 refl t after)
    ∙ (let e : 1 + (length text + 1) ≡ length text + 2 = omega arith in ap Some e)

-- identifiers
pub id-exact : (w after : List ℕ) → IsId w → id_length (w ++ after) ≡ Some (length w + front is_id_part after)
id-exact [] after h = absurd h
id-exact (b ∷ w) after h =
    let through : front is_id_part (w ++ after) ≡ length w + front is_id_part after = front-each is_id_part w after h.1 in
    let sum : 1 + front is_id_part (w ++ after) ≡ suc (length w) + front is_id_part after = omega arith in
    cond-true (is_id_start b) _ _ h.0 ∙ ap Some sum
