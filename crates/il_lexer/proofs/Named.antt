-- The token that begins with a name.
use Rattle.std.proofs.Common.{◌≡◌, ℕ, suc, ◌+◌, ◌<◌, ◌≤◌, Bool, true, false, cond, nat_eq, ◌⊎◌, inl, inr, List, [], ◌∷◌, ◌++◌, length, take, drop, codes, Option, None, Some, refl, ap, sym, subst, ◌∙◌, arith, length-append, length-take-le, take-append-drop, append_assoc}
use Rattle.std.proofs.lemmas.Bool.{cases_Bool, cond-true, cond-false, eqb-true}
use Rattle.std.specs.Option.{option_map}
use Rattle.il_lexer.specs.declared.types.Lexeme.{Lexeme}
use Rattle.il_lexer.specs.declared.types.TokenKind.TheVariants.{Name, ByteArray, Word}
use Rattle.il_lexer.specs.declared.word.TheConstants.{BYTEARRAY}
use Rattle.il_lexer.specs.Classes.{is_digit, first_passes, first_is}
use Rattle.il_lexer.specs.Spellings.{name_length, bytes_length}
use Rattle.il_lexer.specs.WordList.{word_number}
use Rattle.il_lexer.specs.Tokens.{lexeme, word_or, word_of, or_lexeme, longer_word, with_bytes, bytearray_token, name_or_word, lexeme_or, named}
use Rattle.il_lexer.specs.Spelled.{IsName, HasBytes, IsSpelling}
use Rattle.il_lexer.proofs.Fronts.{Front, first-cons, first-is-cons, nonempty-drop}
use Rattle.il_lexer.proofs.SpelledBytes.{bytes-front}
use Rattle.il_lexer.proofs.SpelledNames.{name-front}
use Rattle.il_lexer.proofs.Marks.{number-word, bytearray}

-- a word that goes on behind a name of `n` bytes
pub record Longer (bs : List ℕ) (n : ℕ) (l : Lexeme) : Type 0 where
  pub size : ℕ
  pub number : ℕ
  pub is : l ≡ lexeme (Word number) size
  pub word : word_number (take size bs) ≡ Some number
  pub dot : first_is 46 (drop n bs) ≡ true
  pub form : (size ≡ n + 1) ⊎ ((size ≡ n + 2) × (first_passes is_digit (drop (n + 1) bs) ≡ true))

word_found : (bs : List ℕ) (m : ℕ) (o : Option ℕ) → word_number (take m bs) ≡ o → (l : Lexeme) →
    option_map (λ k. lexeme (Word k) m) o ≡ Some l → (k : ℕ) × (l ≡ lexeme (Word k) m) × (word_number (take m bs) ≡ Some k)
word_found bs m None e l h = cc
word_found bs m (Some k) e l h = (k, (cc), e)

some_lexeme : (a b : Lexeme) → Some a ≡ Some b → a ≡ b
some_lexeme a b h = cc

second : (a : Option Lexeme) (b : Option Lexeme) (l : Lexeme) → or_lexeme a b ≡ Some l → (a ≡ Some l) ⊎ (b ≡ Some l)
second None b l h = inr h
second (Some x) b l h = inl h

pub longer-found : (bs : List ℕ) (n : ℕ) (l : Lexeme) → longer_word bs n ≡ Some l → Longer bs n l
unfolding longer_word
longer-found bs n l h =
    elim (cases_Bool (first_is 46 (drop n bs))) [
      | inl dot ↦ elim (second (cond (first_passes is_digit (drop (n + 1) bs)) (word_of bs (n + 2)) None) (word_of bs (n + 1)) l
          (sym (cond-true (first_is 46 (drop n bs)) _ _ dot) ∙ h)) [
            | inl a ↦ elim (cases_Bool (first_passes is_digit (drop (n + 1) bs))) [
              | inl digit ↦
                  let f = word_found bs (n + 2) (word_number (take (n + 2) bs)) refl l
                  (sym (cond-true (first_passes is_digit (drop (n + 1) bs)) _ _ digit) ∙ a) in
                  record { size = n + 2; number = f.0; is = f.1; word = f.2; dot = dot; form = inr (refl, digit) }
              | inr other ↦
                  (let bad : None ≡ Some l = sym (cond-false (first_passes is_digit (drop (n + 1) bs)) _ _ other) ∙ a in cc)
            ]
            | inr b ↦
                let f = word_found bs (n + 1) (word_number (take (n + 1) bs)) refl l b in
                record { size = n + 1; number = f.0; is = f.1; word = f.2; dot = dot; form = inl refl }
          ]
      | inr other ↦ (let bad : None ≡ Some l = sym (cond-false (first_is 46 (drop n bs)) _ _ other) ∙ h in cc)
    ]

-- the bytes of a longer word
pub longer-fits : {bs : List ℕ} {n : ℕ} {l : Lexeme} → (f : Longer bs n l) → (n < f.size) × (f.size ≤ length bs)
longer-fits {bs} {n} {l} f =
    let next = first-is-cons 46 (drop n bs) f.dot in
    let lt : n < length bs = nonempty-drop n 46 bs next.0 next.1 in
    elim f.form [
      | inl one ↦ (omega arith, omega arith)
      | inr two ↦
          let more = first-cons is_digit (drop (n + 1) bs) two.1 in
          let lt2 : n + 1 < length bs = nonempty-drop (n + 1) more.0 bs more.1 more.3 in
          let size : f.size ≡ n + 2 = two.0 in
          (omega arith, omega arith)
    ]

-- the word `bytearray` with bytes behind it
bytes_spelled : (bs : List ℕ) (n : ℕ) → n ≤ length bs → word_number (take n bs) ≡ Some BYTEARRAY → (o : Option ℕ) →
    bytes_length (drop n bs) ≡ o → Front (IsSpelling (with_bytes o n).kind) bs (with_bytes o n).length
bytes_spelled bs n le w None e =
    record {
      word = take n bs;
      after = drop n bs;
      holds = number-word (take n bs) BYTEARRAY w;
      whole = sym (take-append-drop n bs);
      long = length-take-le n bs le;
    }
bytes_spelled bs n le w (Some m) e =
    let f : Front HasBytes (drop n bs) m = bytes-front (drop n bs) m e in
    let is : take n bs ≡ codes "bytearray" = sym (number-word (take n bs) BYTEARRAY w).1 ∙ bytearray.1 in
    let l1 : length (take n bs) ≡ n = length-take-le n bs le in
    let l2 : length f.word ≡ m = f.long in
    let len : length (take n bs ++ f.word) ≡ length (take n bs) + length f.word = length-append (take n bs) f.word in
    record {
      word = take n bs ++ f.word;
      after = f.after;
      holds = (f.word, f.holds, ap (λ x. x ++ f.word) is);
      whole = sym (take-append-drop n bs) ∙ ap (λ x. take n bs ++ x) f.whole ∙ sym (append_assoc (take n bs) f.word f.after);
      long = omega arith;
    }

name_spelled : (bs : List ℕ) (n : ℕ) → Front IsName bs n → (o : Option ℕ) → word_number (take n bs) ≡ o →
    Front (IsSpelling (name_or_word bs n o).kind) bs (name_or_word bs n o).length
unfolding bytearray_token
name_spelled bs n f None e = f
name_spelled bs n f (Some k) e =
    go (nat_eq k BYTEARRAY) refl
  where
    le : n ≤ length bs
    le =
        let l1 : length f.word ≡ n = f.long in
        let l2 : length bs ≡ length f.word + length f.after = ap length f.whole ∙ length-append f.word f.after in
        omega arith

    go : (t : Bool) → nat_eq k BYTEARRAY ≡ t →
        Front (IsSpelling (cond t (bytearray_token bs n) (lexeme (Word k) n)).kind) bs (cond t (bytearray_token bs n) (lexeme (Word k) n)).length
    go true et =
        bytes_spelled bs n le (e ∙ ap Some (eqb-true k BYTEARRAY et)) (bytes_length (drop n bs)) refl
    go false et =
        record {
          word = take n bs;
          after = drop n bs;
          holds = number-word (take n bs) k e;
          whole = sym (take-append-drop n bs);
          long = length-take-le n bs le;
        }

-- what begins with a name is spelled by the bytes that it takes
pub named-spelled : (bs : List ℕ) (n : ℕ) → name_length bs ≡ Some n → Front (IsSpelling (named bs n).kind) bs (named bs n).length
unfolding named
named-spelled bs n h = go (longer_word bs n) refl
  where
    go : (o : Option Lexeme) → longer_word bs n ≡ o →
        Front (IsSpelling (lexeme_or o (name_or_word bs n (word_number (take n bs)))).kind) bs
        (lexeme_or o (name_or_word bs n (word_number (take n bs)))).length
    go None e = name_spelled bs n (name-front bs n h) (word_number (take n bs)) refl
    go (Some l) e =
        let f : Longer bs n l = longer-found bs n l e in
        let fits = longer-fits f in
        let front : Front (IsSpelling (Word f.number)) bs f.size =
        record {
          word = take f.size bs;
          after = drop f.size bs;
          holds = number-word (take f.size bs) f.number f.word;
          whole = sym (take-append-drop f.size bs);
          long = length-take-le f.size bs fits.1;
        } in
        subst (λ x. Front (IsSpelling x.kind) bs x.length) (sym f.is) front

-- it is no shorter than the name, and where it is as long it is the name, or the word that the name is
with_bytes_long : (o : Option ℕ) (n : ℕ) → n ≤ (with_bytes o n).length
with_bytes_long None n = omega arith
with_bytes_long (Some m) n = omega arith

name_long : (bs : List ℕ) (n : ℕ) (o : Option ℕ) → n ≤ (name_or_word bs n o).length
unfolding bytearray_token
name_long bs n None = omega arith
name_long bs n (Some k) = go (nat_eq k BYTEARRAY)
  where
    go : (t : Bool) → n ≤ (cond t (bytearray_token bs n) (lexeme (Word k) n)).length
    go true = with_bytes_long (bytes_length (drop n bs)) n
    go false = omega arith

pub named-long : (bs : List ℕ) (n : ℕ) → n ≤ (named bs n).length
unfolding named
named-long bs n = go (longer_word bs n) refl
  where
    go : (o : Option Lexeme) → longer_word bs n ≡ o → n ≤ (lexeme_or o (name_or_word bs n (word_number (take n bs)))).length
    go None e = name_long bs n (word_number (take n bs))
    go (Some l) e =
        let f : Longer bs n l = longer-found bs n l e in
        let lt : n < f.size = (longer-fits f).0 in
        let long : l.length ≡ f.size = ap (λ x. x.length) f.is in
        omega arith

pub bytes-some : (bs : List ℕ) (m : ℕ) → bytes_length bs ≡ Some m → 0 < m
bytes-some bs m e =
    let f : Front HasBytes bs m = bytes-front bs m e in
    let h : HasBytes f.word = f.holds in
    let l1 : length f.word ≡ m = f.long in
    let l2 : length f.word ≡ length h.lead + length h.inner = ap length h.is ∙ length-append h.lead h.inner in
    let l3 : length h.inner ≡ suc (length (h.bytes.lead ++ (h.bytes.pairs ++ 41 ∷ []))) = ap length h.bytes.is in
    omega arith

with_bytes_same : (bs : List ℕ) (o : Option ℕ) (n : ℕ) → bytes_length bs ≡ o → (with_bytes o n).length ≡ n →
    with_bytes o n ≡ lexeme (Word BYTEARRAY) n
with_bytes_same bs None n e h = refl
with_bytes_same bs (Some m) n e h =
    let lt : 0 < m = bytes-some bs m e in
    let sum : n + m ≡ n = h in
    absurd (omega arith)

name_same : (bs : List ℕ) (n : ℕ) (o : Option ℕ) → (name_or_word bs n o).length ≡ n → name_or_word bs n o ≡ lexeme (word_or o Name) n
unfolding bytearray_token
name_same bs n None h = refl
name_same bs n (Some k) h = go (nat_eq k BYTEARRAY) refl h
  where
    go : (t : Bool) → nat_eq k BYTEARRAY ≡ t → (cond t (bytearray_token bs n) (lexeme (Word k) n)).length ≡ n →
        cond t (bytearray_token bs n) (lexeme (Word k) n) ≡ lexeme (Word k) n
    go true et h =
        with_bytes_same (drop n bs) (bytes_length (drop n bs)) n refl h ∙ ap (λ j. lexeme (Word j) n) (sym (eqb-true k BYTEARRAY et))
    go false et h = refl

pub named-same : (bs : List ℕ) (n : ℕ) → (named bs n).length ≡ n → (named bs n).kind ≡ word_or (word_number (take n bs)) Name
unfolding named
named-same bs n h = go (longer_word bs n) refl h
  where
    go : (o : Option Lexeme) → longer_word bs n ≡ o → (lexeme_or o (name_or_word bs n (word_number (take n bs)))).length ≡ n →
        (lexeme_or o (name_or_word bs n (word_number (take n bs)))).kind ≡ word_or (word_number (take n bs)) Name
    go None e h = ap (λ x. x.kind) (name_same bs n (word_number (take n bs)) h)
    go (Some l) e h =
        let f : Longer bs n l = longer-found bs n l e in
        let lt : n < f.size = (longer-fits f).0 in
        let long : l.length ≡ f.size = ap (λ x. x.length) f.is in
        let size : l.length ≡ n = h in
        absurd (omega arith)

-- with no dot behind the name, and behind `bytearray` no bytes, it ends there
pub named-ends : (bs : List ℕ) (n : ℕ) → first_is 46 (drop n bs) ≡ false →
    (word_number (take n bs) ≡ Some BYTEARRAY → bytes_length (drop n bs) ≡ None) → (named bs n).length ≡ n
unfolding named longer_word bytearray_token
named-ends bs n dot bytes =
    ap (λ o. (lexeme_or o (name_or_word bs n (word_number (take n bs)))).length) (cond-false (first_is 46 (drop n bs)) _ _ dot)
    ∙ go (word_number (take n bs)) bytes
  where
    go : (o : Option ℕ) → (o ≡ Some BYTEARRAY → bytes_length (drop n bs) ≡ None) → (name_or_word bs n o).length ≡ n
    go None h = refl
    go (Some k) h = on (nat_eq k BYTEARRAY) refl
      where
        on : (t : Bool) → nat_eq k BYTEARRAY ≡ t → (cond t (bytearray_token bs n) (lexeme (Word k) n)).length ≡ n
        on true et = ap (λ o. (with_bytes o n).length) (h (ap Some (eqb-true k BYTEARRAY et)))
        on false et = refl

-- the word that goes on behind a name, where there is one
pub named-longer : (bs : List ℕ) (n : ℕ) (l : Lexeme) → longer_word bs n ≡ Some l → named bs n ≡ l
unfolding named
named-longer bs n l h = ap (λ o. lexeme_or o (name_or_word bs n (word_number (take n bs)))) h

-- with a dot and a digit that are a word
pub longer-digit : (bs : List ℕ) (n k : ℕ) → first_is 46 (drop n bs) ≡ true → first_passes is_digit (drop (n + 1) bs) ≡ true →
    word_number (take (n + 2) bs) ≡ Some k → longer_word bs n ≡ Some (lexeme (Word k) (n + 2))
unfolding longer_word
longer-digit bs n k dot digit word =
    cond-true (first_is 46 (drop n bs)) _ _ dot
    ∙ ap (λ o. or_lexeme o (word_of bs (n + 1)))
    (cond-true (first_passes is_digit (drop (n + 1) bs)) _ _ digit ∙ ap (option_map (λ j. lexeme (Word j) (n + 2))) word)

-- with a dot that is a word: that, or a longer one
pub longer-dot : (bs : List ℕ) (n k : ℕ) → first_is 46 (drop n bs) ≡ true → word_number (take (n + 1) bs) ≡ Some k →
    (l : Lexeme)
    × (longer_word bs n ≡ Some l)
    × (((n + 1 < l.length) × (first_passes is_digit (drop (n + 1) bs) ≡ true)) ⊎ (l ≡ lexeme (Word k) (n + 1)))
unfolding longer_word
longer-dot bs n k dot word =
    go (cond (first_passes is_digit (drop (n + 1) bs)) (word_of bs (n + 2)) None) refl
  where
    long : (l : Lexeme) → cond (first_passes is_digit (drop (n + 1) bs)) (word_of bs (n + 2)) None ≡ Some l →
        (n + 1 < l.length) × (first_passes is_digit (drop (n + 1) bs) ≡ true)
    long l h = elim (cases_Bool (first_passes is_digit (drop (n + 1) bs))) [
      | inl t ↦
          let f = word_found bs (n + 2) (word_number (take (n + 2) bs)) refl l
          (sym (cond-true (first_passes is_digit (drop (n + 1) bs)) _ _ t) ∙ h) in
          let size : l.length ≡ n + 2 = ap (λ x. x.length) f.1 in
          (omega arith, t)
      | inr t ↦ (let bad : None ≡ Some l = sym (cond-false (first_passes is_digit (drop (n + 1) bs)) _ _ t) ∙ h in cc)
    ]

    go : (o : Option Lexeme) → cond (first_passes is_digit (drop (n + 1) bs)) (word_of bs (n + 2)) None ≡ o →
        (l : Lexeme)
        × (cond (first_is 46 (drop n bs)) (or_lexeme (cond (first_passes is_digit (drop (n + 1) bs)) (word_of bs (n + 2)) None) (word_of bs (n + 1))) None ≡ Some l)
        × (((n + 1 < l.length) × (first_passes is_digit (drop (n + 1) bs) ≡ true)) ⊎ (l ≡ lexeme (Word k) (n + 1)))
    go None e = (
      lexeme (Word k) (n + 1),
      cond-true (first_is 46 (drop n bs)) _ _ dot ∙ ap (λ o. or_lexeme o (word_of bs (n + 1))) e
          ∙ ap (option_map (λ j. lexeme (Word j) (n + 1))) word,
      inr refl,
    )
    go (Some l) e =
        (l, cond-true (first_is 46 (drop n bs)) _ _ dot ∙ ap (λ o. or_lexeme o (word_of bs (n + 1))) e, inl (long l e))

-- `bytearray` with bytes behind it
pub named-bytes : (bs : List ℕ) (n m : ℕ) → first_is 46 (drop n bs) ≡ false → word_number (take n bs) ≡ Some BYTEARRAY →
    bytes_length (drop n bs) ≡ Some m → named bs n ≡ lexeme ByteArray (n + m)
unfolding named longer_word bytearray_token
named-bytes bs n m dot word bytes =
    ap (λ o. lexeme_or o (name_or_word bs n (word_number (take n bs)))) (cond-false (first_is 46 (drop n bs)) _ _ dot)
    ∙ ap (name_or_word bs n) word
    ∙ ap (λ o. with_bytes o n) bytes
