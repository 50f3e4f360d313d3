-- Where a word stands, no shorter token is found.
use Rattle.std.proofs.Common.{◌≡◌, ℕ, suc, ◌+◌, ◌<◌, ◌≤◌, Bool, true, false, not, cond, ◌||◌, nat_eq, inl, inr, List, [], ◌∷◌, ◌++◌, length, take, drop, codes, Option, None, Some, Ok, Err, refl, ap, sym, subst, ◌∙◌, arith, length-append, append_assoc, take_at, drop_at, true≢false}
use Rattle.std.proofs.lemmas.Bool.{cases_Bool, cond-true, cond-false, false≢true, false_from_ne_true, and_parts}
use Rattle.std.specs.Option.{option_map}
use Rattle.std.specs.Str.{bytes_eq}
use Rattle.std.specs.Cmp.Lexicographic.{bytes_decides}
use Rattle.il_lexer.specs.declared.types.Lexeme.{Lexeme}
use Rattle.il_lexer.specs.declared.types.TokenKind.TheVariants.{Name, ByteArray, Word}
use Rattle.il_lexer.specs.declared.word.TheConstants.{BYTEARRAY}
use Rattle.il_lexer.specs.Classes.{is_blank, is_digit, is_id_start, first_passes, first_is}
use Rattle.il_lexer.specs.Gaps.{gap_piece, gap}
use Rattle.il_lexer.specs.Spellings.{part_length, dotted_part, name_length, bytes_length}
use Rattle.il_lexer.specs.WordList.{word_number}
use Rattle.il_lexer.specs.Tokens.{Found, lexeme, word_or, bytearray_token, with_bytes, name_or_word, lexeme_or, longer_word, named, named_or, id_token, token_at}
use Rattle.il_lexer.specs.Spelled.{IsPart, IsName, IsWord}
use Rattle.il_lexer.specs.Longest.{ends_name, ends_before_bytes, ends_word}
use Rattle.il_lexer.proofs.RunLemmas.{run-none}
use Rattle.il_lexer.proofs.Fronts.{Front, run-append, front-rest, first-cons, first-is-cons, differ, heads-same}
use Rattle.il_lexer.proofs.SpelledNames.{part-front, part-some, name-front, NameAt, name-exact}
use Rattle.il_lexer.proofs.WordTokens.{word-token}
use Rattle.il_lexer.proofs.WordNumbers.{words-len}
use Rattle.il_lexer.proofs.Marks as M
use Rattle.il_lexer.proofs.FirstBytes.{at-id, digit-no-start}
use Rattle.il_lexer.proofs.Named.{Longer, longer-found, named-long, named-longer, longer-digit, longer-dot}
use Rattle.il_lexer.proofs.Reached.{Reach, ends-name-parts, IdAt, id-at}

ok_same : (a b : Lexeme) → ◌≡◌ {A = Found} (Ok a) (Ok b) → a ≡ b
ok_same a b h = cc

-- a word alone is its token
pub alone : (k : ℕ) (w : List ℕ) → IsWord k w → token_at w ≡ Ok (lexeme (Word k) (length w))
alone k w h =
    subst (λ x. token_at x ≡ Ok (lexeme (Word k) (length x))) h.1 (word-token k (subst (λ n. k < n) words-len h.0))

-- a token that is found, and that no other ends before
pub exactly : (k : ℕ) (w after : List ℕ) → token_at (w ++ after) ≡ Ok (lexeme (Word k) (length w)) → Reach (Word k) w after
exactly k w after e =
    record {
      found = lexeme (Word k) (length w);
      is = e;
      long = omega arith;
      wins = λ h. inl refl;
      stops = λ own h. refl;
    }

-- the form of a word that begins as an identifier does
data WordForm (w : List ℕ) : Type 0 where
  name_form : IsName w → WordForm w
  dot_form : {first : List ℕ} → IsName first → w ≡ first ++ 46 ∷ [] → WordForm w
  digit_form : {first : List ℕ} (d : ℕ) → IsName first → is_digit d ≡ true → w ≡ first ++ 46 ∷ d ∷ [] → WordForm w

pub no-bytes : (xs : List ℕ) → length xs ≡ 0 → xs ≡ []
no-bytes [] h = refl
no-bytes (x ∷ xs) h = absurd (omega arith)

pub whole-front : (P : List ℕ → Type 0) {w : List ℕ} {n : ℕ} → Front P w n → n ≡ length w → P w
whole-front P {w} {n} f e =
    let l1 : length f.word ≡ n = f.long in
    let l2 : length w ≡ length f.word + length f.after = ap length f.whole ∙ length-append f.word f.after in
    let none : f.after ≡ [] = no-bytes f.after (omega arith) in
    subst P (sym (f.whole ∙ ap (λ x. f.word ++ x) none ∙ append_nil f.word)) f.holds
  where
    append_nil : (xs : List ℕ) → xs ++ [] ≡ xs
    append_nil [] = refl
    append_nil (x ∷ xs) = ap (λ ys. x ∷ ys) (append_nil xs)

name_size : (w : List ℕ) (n k : ℕ) (o : Option ℕ) → name_or_word w n o ≡ lexeme (Word k) (length w) → n ≡ length w
unfolding bytearray_token
name_size w n k None h = (let bad : Name ≡ Word k = ap (λ x. x.kind) h in cc)
name_size w n k (Some j) h = go (nat_eq j BYTEARRAY) h
  where
    with : (o : Option ℕ) → with_bytes o n ≡ lexeme (Word k) (length w) → n ≡ length w
    with None h = ap (λ x. x.length) h
    with (Some m) h = (let bad : ByteArray ≡ Word k = ap (λ x. x.kind) h in cc)

    go : (t : Bool) → cond t (bytearray_token w n) (lexeme (Word j) n) ≡ lexeme (Word k) (length w) → n ≡ length w
    go true h = with (bytes_length (drop n w)) h
    go false h = ap (λ x. x.length) h

longer_form : (w : List ℕ) (n : ℕ) (l : Lexeme) → Front IsName w n → Longer w n l → l.length ≡ length w → WordForm w
longer_form w n l f x e =
    let dots = first-is-cons 46 (drop n w) x.dot in
    let there : w ≡ f.word ++ 46 ∷ dots.0 = f.whole ∙ ap (λ y. f.word ++ y) (sym (front-rest f) ∙ dots.1) in
    let l1 : length f.word ≡ n = f.long in
    let l2 : length w ≡ length f.word + suc (length dots.0) = ap length there ∙ length-append f.word (46 ∷ dots.0) in
    let size : l.length ≡ x.size = ap (λ y. y.length) x.is in
    elim x.form [
      | inl one ↦
          let none : dots.0 ≡ [] = no-bytes dots.0 (omega arith) in
          WordForm.dot_form f.holds (there ∙ ap (λ y. f.word ++ 46 ∷ y) none)
      | inr two ↦
          let one : n + 1 ≡ length (f.word ++ 46 ∷ []) = (let l : length (f.word ++ 46 ∷ []) ≡ length f.word + 1 = length-append f.word (46 ∷ []) in omega arith) in
          let behind : drop (n + 1) w ≡ dots.0 =
          ap (drop (n + 1)) (there ∙ sym (append_assoc f.word (46 ∷ []) dots.0)) ∙ drop_at (f.word ++ 46 ∷ []) dots.0 (n + 1) (sym one) in
          let d = first-cons is_digit dots.0 (ap (first_passes is_digit) (sym behind) ∙ two.1) in
          let l3 : length dots.0 ≡ suc (length d.1) = ap length d.3 in
          let size2 : x.size ≡ n + 2 = two.0 in
          let none : d.1 ≡ [] = no-bytes d.1 (omega arith) in
          WordForm.digit_form d.0 f.holds d.2 (there ∙ ap (λ y. f.word ++ 46 ∷ y) (d.3 ∙ ap (λ y. d.0 ∷ y) none))
    ]

word_form : (w : List ℕ) (n k : ℕ) → Front IsName w n → named w n ≡ lexeme (Word k) (length w) → WordForm w
unfolding named
word_form w n k f h = go (longer_word w n) refl h
  where
    go : (o : Option Lexeme) → longer_word w n ≡ o →
        lexeme_or o (name_or_word w n (word_number (take n w))) ≡ lexeme (Word k) (length w) → WordForm w
    go None e h = WordForm.name_form (whole-front IsName f (name_size w n k (word_number (take n w)) h))
    go (Some l) e h = longer_form w n l f (longer-found w n l e) (ap (λ x. x.length) h)

-- what stands behind a word that begins as an identifier does, where it ends there
not_mark : (b c : ℕ) (w cs : List ℕ) → is_id_start b ≡ true → is_id_start c ≡ false → bytes_eq (b ∷ w) (c ∷ cs) ≡ false
not_mark b c w cs h n =
    false_from_ne_true (bytes_eq (b ∷ w) (c ∷ cs)) (λ e.
    let same : b ∷ w ≡ c ∷ cs = (bytes_decides (b ∷ w) (c ∷ cs)).0 e in
    true≢false (sym h ∙ ap is_id_start (heads-same b c w cs same) ∙ n))

pub no-gap-bytes : (after : List ℕ) → ends_before_bytes after ≡ true → first_is 40 (drop (gap after) after) ≡ false
no-gap-bytes [] h = ap (λ n. first_is 40 (drop n [])) (ap (λ r. r.bytes) (run-none gap_piece [] refl))
no-gap-bytes (b ∷ bs) h = elim (cases_Bool (is_blank b)) [
  | inl t ↦
      let more : first_is 40 (drop (gap bs) bs) ≡ false = no-gap-bytes bs (sym (cond-true (is_blank b) _ _ t) ∙ h) in
      let size : gap (b ∷ bs) ≡ suc (gap bs) =
      (let run = ap (λ r. r.bytes) (run-append gap_piece (b ∷ []) bs (omega arith) (cond-true (is_blank b) _ _ t)) in
      let sum : gap (b ∷ bs) ≡ 1 + gap bs = run in omega arith) in
      ap (λ n. first_is 40 (drop n (b ∷ bs))) size ∙ more
  | inr t ↦
      let parts = neither (nat_eq b 40) (nat_eq b 47) (sym (cond-false (is_blank b) _ _ t) ∙ h) in
      let none : gap_piece (b ∷ bs) ≡ None = cond-false (is_blank b) _ _ t ∙ cond-false (nat_eq b 47) _ _ parts.1 in
      ap (λ n. first_is 40 (drop n (b ∷ bs))) (ap (λ r. r.bytes) (run-none gap_piece (b ∷ bs) none)) ∙ parts.0
]
  where
    neither : (x y : Bool) → not (x || y) ≡ true → (x ≡ false) × (y ≡ false)
    neither true y h = absurd (false≢true h)
    neither false true h = absurd (false≢true h)
    neither false false h = (refl, refl)

pub no-bytes-behind : (after : List ℕ) → ends_before_bytes after ≡ true → bytes_length after ≡ None
no-bytes-behind after h = cond-false (first_is 40 (drop (gap after) after)) _ _ (no-gap-bytes after h)

letters_end : (b : ℕ) (w after : List ℕ) → is_id_start b ≡ true → ends_word (b ∷ w) after ≡ true →
    (ends_name after ≡ true) × (b ∷ w ≡ codes "bytearray" → bytes_length after ≡ None)
letters_end b w after start h =
    let h1 = sym (cond-false (bytes_eq (b ∷ w) (codes "!")) _ _ (not_mark b 33 w [] start refl)) ∙ h in
    let h2 = sym (cond-false (bytes_eq (b ∷ w) (codes ":")) _ _ (not_mark b 58 w [] start refl)) ∙ h1 in
    let h3 = sym (cond-false (bytes_eq (b ∷ w) (codes "/")) _ _ (not_mark b 47 w [] start refl)) ∙ h2 in
    let h4 = sym (cond-false (bytes_eq (b ∷ w) (codes "-")) _ _ (not_mark b 45 w [] start refl)) ∙ h3 in
    let h5 = sym (cond-false (bytes_eq (b ∷ w) (codes "=")) _ _ (not_mark b 61 w [] start refl)) ∙ h4 in
    let h6 = sym (cond-false (bytes_eq (b ∷ w) (codes "(")) _ _ (not_mark b 40 w [] start refl)) ∙ h5 in
    let h7 = sym (cond-false (bytes_eq (b ∷ w) (codes "[")) _ _ (not_mark b 91 w [] start refl)) ∙ h6 in
    elim (cases_Bool (bytes_eq (b ∷ w) (codes "bytearray"))) [
      | inl t ↦
          let parts = and_parts (ends_name after) (ends_before_bytes after)
          (sym (cond-true (bytes_eq (b ∷ w) (codes "bytearray")) _ _ t) ∙ h7) in
          (parts.0, λ e. no-bytes-behind after parts.1)
      | inr t ↦ (
        sym (cond-true (is_id_start b) _ _ start) ∙ sym (cond-false (bytes_eq (b ∷ w) (codes "bytearray")) _ _ t) ∙ h7,
        λ e. absurd (true≢false (sym ((bytes_decides (b ∷ w) (codes "bytearray")).1 e) ∙ t)),
      )
    ]

bytearray_is : (w : List ℕ) → word_number w ≡ Some BYTEARRAY → w ≡ codes "bytearray"
bytearray_is w h = sym (M.number-word w BYTEARRAY h).1 ∙ M.bytearray.1

reach_name : (k b : ℕ) (w after : List ℕ) → is_id_start b ≡ true → IsWord k (b ∷ w) → IsName (b ∷ w) → Reach (Word k) (b ∷ w) after
reach_name k b w after start word name =
    let f : IdAt (b ∷ w) after = id-at b w after start name in
    record {
      found = named (b ∷ (w ++ after)) f.size;
      is = f.is;
      long = f.long;
      wins = λ e. inl (f.same e ∙ ap (λ o. word_or o Name) (M.word-number (b ∷ w) k word));
      stops = λ own e.
          let parts = letters_end b w after start e in
          f.stops parts.0 (λ n. parts.1 (bytearray_is (b ∷ w) n));
    }

-- a name goes on with a dot and a name
name_dot : {first rest : List ℕ} → IsName first → IsName rest → IsName (first ++ 46 ∷ rest)
name_dot (IsName.part p) r = IsName.dotted p r refl
name_dot {first} {rest} (IsName.dotted {first = a} {rest = b} p more is) r =
    IsName.dotted p (name_dot more r) (ap (λ x. x ++ 46 ∷ rest) is ∙ append_assoc a (46 ∷ b) (46 ∷ rest))

ends_part : (after : List ℕ) → ends_name after ≡ true → part_length after ≡ None
ends_part [] h = refl
ends_part (b ∷ after) h =
    let parts = ends-name-parts (b ∷ after) h in
    cond-false (nat_eq b 39) _ _ parts.2 ∙ cond-false (is_id_start b) _ _ (no_start (is_id_start b) (is_digit b) parts.0)
  where
    no_start : (x y : Bool) → (x || y) ≡ false → x ≡ false
    no_start true y h = absurd (true≢false h)
    no_start false y h = refl

ends_digit : (after : List ℕ) → ends_name after ≡ true → first_passes is_digit after ≡ false
ends_digit [] h = refl
ends_digit (b ∷ after) h = go (is_id_start b) (is_digit b) (ends-name-parts (b ∷ after) h).0
  where
    go : (x y : Bool) → (x || y) ≡ false → y ≡ false
    go true y h = absurd (true≢false h)
    go false y h = h

-- at the first byte of an identifier, in brackets of names
at_name : (b : ℕ) (rest : List ℕ) (n : ℕ) → is_id_start b ≡ true → name_length (b ∷ rest) ≡ Some n →
    token_at (b ∷ rest) ≡ Ok (named (b ∷ rest) n)
unfolding id_token
at_name b rest n start e = at-id b rest start ∙ ap (λ o. named_or (b ∷ rest) o (Err 5)) e

-- the bytes of a word that ends with a dot, before the rest
reach_dot : (k b : ℕ) (w after first : List ℕ) → is_id_start b ≡ true → IsWord k (b ∷ w) → IsName first → b ∷ w ≡ first ++ 46 ∷ [] →
    Reach (Word k) (b ∷ w) after
reach_dot k b w after first start word name is = go (part_length after) refl
  where
    same : b ∷ (w ++ after) ≡ first ++ 46 ∷ after
    same = ap (λ x. x ++ after) is ∙ append_assoc first (46 ∷ []) after

    len : suc (length w) ≡ length first + 1
    len = ap length is ∙ length-append first (46 ∷ [])

    go : (o : Option ℕ) → part_length after ≡ o → Reach (Word k) (b ∷ w) after
    go (Some m) e =
        let p : Front IsPart after m = part-front after m e in
        let n : NameAt (first ++ 46 ∷ p.word) p.after = name-exact (name_dot name (IsName.part p.holds)) p.after in
        let whole : b ∷ (w ++ after) ≡ (first ++ 46 ∷ p.word) ++ p.after =
        same ∙ ap (λ x. first ++ 46 ∷ x) p.whole ∙ sym (append_assoc first (46 ∷ p.word) p.after) in
        let at : name_length (b ∷ (w ++ after)) ≡ Some n.size = ap name_length whole ∙ n.is in
        let low : length (first ++ 46 ∷ p.word) ≤ n.size = n.long in
        let l1 : length (first ++ 46 ∷ p.word) ≡ length first + suc (length p.word) = length-append first (46 ∷ p.word) in
        let some : 0 < length p.word = part-some p.holds in
        let all : n.size ≤ (named (b ∷ (w ++ after)) n.size).length = named-long (b ∷ (w ++ after)) n.size in
        let sum : suc (length w) ≡ length first + 1 = len in
        record {
          found = named (b ∷ (w ++ after)) n.size;
          is = at_name b (w ++ after) n.size start at;
          long = omega arith;
          wins = λ h. absurd (let size : (named (b ∷ (w ++ after)) n.size).length ≡ suc (length w) = h in omega arith);
          stops = λ own h. (let bad : None ≡ Some m = sym (ends_part after (letters_end b w after start h).0) ∙ e in cc);
        }
    go None e =
        let n : NameAt first (46 ∷ after) = name-exact name (46 ∷ after) in
        let dots : dotted_part (46 ∷ after) ≡ None = ap (option_map (λ m. 1 + m)) e in
        let size : n.size ≡ length first = n.stops refl dots in
        let at : name_length (b ∷ (w ++ after)) ≡ Some (length first) = ap name_length same ∙ n.is ∙ ap Some size in
        let behind : drop (length first) (b ∷ (w ++ after)) ≡ 46 ∷ after =
        ap (drop (length first)) same ∙ drop_at first (46 ∷ after) (length first) refl in
        let sum : suc (length w) ≡ length first + 1 = len in
        let taken : take (length first + 1) (b ∷ (w ++ after)) ≡ b ∷ w = take_at (b ∷ w) after (length first + 1) sum in
        let further : drop (length first + 1) (b ∷ (w ++ after)) ≡ after = drop_at (b ∷ w) after (length first + 1) sum in
        let f = longer-dot (b ∷ (w ++ after)) (length first) k (ap (first_is 46) behind) (ap word_number taken ∙ M.word-number (b ∷ w) k word) in
        let found : token_at (b ∷ (w ++ after)) ≡ Ok f.0 =
        at_name b (w ++ after) (length first) start at ∙ ap Ok (named-longer (b ∷ (w ++ after)) (length first) f.0 f.1) in
        elim f.2 [
          | inl more ↦
              let long : length first + 1 < f.0.length = more.0 in
              record {
                found = f.0;
                is = found;
                long = omega arith;
                wins = λ h. absurd (let size : f.0.length ≡ suc (length w) = h in omega arith);
                stops = λ own h. absurd (true≢false (sym more.1 ∙ ap (first_passes is_digit) further
                    ∙ ends_digit after (letters_end b w after start h).0));
              }
          | inr it ↦
              exactly k (b ∷ w) after (found ∙ ap Ok (it ∙ ap (lexeme (Word k)) (sym sum)))
        ]

reach_digit : (k b : ℕ) (w after first : List ℕ) (d : ℕ) → is_id_start b ≡ true → IsWord k (b ∷ w) → IsName first → is_digit d ≡ true →
    b ∷ w ≡ first ++ 46 ∷ d ∷ [] → Reach (Word k) (b ∷ w) after
reach_digit k b w after first d start word name digit is =
    let same : b ∷ (w ++ after) ≡ first ++ 46 ∷ d ∷ after =
    ap (λ x. x ++ after) is ∙ append_assoc first (46 ∷ d ∷ []) after in
    let n : NameAt first (46 ∷ d ∷ after) = name-exact name (46 ∷ d ∷ after) in
    let part : part_length (d ∷ after) ≡ None =
    cond-false (nat_eq d 39) _ _ (differ is_digit d 39 digit refl) ∙ cond-false (is_id_start d) _ _ (digit-no-start d digit) in
    let size : n.size ≡ length first = n.stops refl (ap (option_map (λ m. 1 + m)) part) in
    let at : name_length (b ∷ (w ++ after)) ≡ Some (length first) = ap name_length same ∙ n.is ∙ ap Some size in
    let behind : drop (length first) (b ∷ (w ++ after)) ≡ 46 ∷ d ∷ after =
    ap (drop (length first)) same ∙ drop_at first (46 ∷ d ∷ after) (length first) refl in
    let l1 : length (first ++ 46 ∷ []) ≡ length first + 1 = length-append first (46 ∷ []) in
    let further : drop (length first + 1) (b ∷ (w ++ after)) ≡ d ∷ after =
    ap (drop (length first + 1)) (same ∙ sym (append_assoc first (46 ∷ []) (d ∷ after)))
    ∙ drop_at (first ++ 46 ∷ []) (d ∷ after) (length first + 1) l1 in
    let sum : suc (length w) ≡ length first + 2 = ap length is ∙ length-append first (46 ∷ d ∷ []) in
    let taken : take (length first + 2) (b ∷ (w ++ after)) ≡ b ∷ w = take_at (b ∷ w) after (length first + 2) sum in
    exactly k (b ∷ w) after
    (at_name b (w ++ after) (length first) start at
    ∙ ap Ok (named-longer (b ∷ (w ++ after)) (length first) (lexeme (Word k) (length first + 2))
    (longer-digit (b ∷ (w ++ after)) (length first) k (ap (first_is 46) behind) (ap (first_passes is_digit) further ∙ digit)
    (ap word_number taken ∙ M.word-number (b ∷ w) k word)))
    ∙ ap (λ m. Ok (lexeme (Word k) m)) (sym sum))

pub reach-letters : (k b : ℕ) (w after : List ℕ) → is_id_start b ≡ true → IsWord k (b ∷ w) → Reach (Word k) (b ∷ w) after
unfolding id_token
reach-letters k b w after start word =
    go (name_length (b ∷ w)) refl (sym (at-id b w start) ∙ alone k (b ∷ w) word)
  where
    by_form : WordForm (b ∷ w) → Reach (Word k) (b ∷ w) after
    by_form (WordForm.name_form n) = reach_name k b w after start word n
    by_form (WordForm.dot_form {first = first} n is) = reach_dot k b w after first start word n is
    by_form (WordForm.digit_form {first = first} d n h is) = reach_digit k b w after first d start word n h is

    go : (o : Option ℕ) → name_length (b ∷ w) ≡ o → named_or (b ∷ w) o (Err 5) ≡ Ok (lexeme (Word k) (suc (length w))) →
        Reach (Word k) (b ∷ w) after
    go None e h = cc
    go (Some n) e h = by_form (word_form (b ∷ w) n k (name-front (b ∷ w) n e) (ok_same _ _ h))
