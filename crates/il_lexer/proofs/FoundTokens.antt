-- What is found is spelled by the bytes that it takes.
use Rattle.std.proofs.Common.{◌≡◌, ℕ, suc, ◌+◌, true, false, cond, ◌&&◌, ◌||◌, nat_eq, ◌⊎◌, inl, inr, List, [], ◌∷◌, ◌++◌, length, take, drop, Option, None, Some, Ok, Err, refl, ap, sym, subst, ◌∙◌, arith, length-append, append_assoc, take_at, true≢false}
use Rattle.std.proofs.lemmas.Bool.{cases_Bool, cond-true, cond-false, eqb-true, false≢true, and_parts, or_cases}
use Rattle.il_lexer.specs.declared.pairs.Pairs.{Pairs}
use Rattle.il_lexer.specs.declared.types.Lexeme.{Lexeme}
use Rattle.il_lexer.specs.declared.types.TokenKind.{TokenKind}
use Rattle.il_lexer.specs.declared.types.TokenKind.TheVariants.{Name, Scope, Int, QString, EqBytes, RealBytes, Hash, Unused, Word}
use Rattle.il_lexer.specs.declared.word.TheConstants.{
  BANG,
  DOUBLE_BANG,
  AMPERSAND,
  OPEN_PAREN,
  CLOSE_PAREN,
  STAR,
  PLUS,
  COMMA,
  MINUS,
  ELLIPSIS,
  SLASH,
  COLON,
  DOUBLE_COLON,
  LESS,
  EQUALS,
  GREATER,
  OPEN_BRACKET,
  CLOSE_BRACKET,
  OPEN_BRACE,
  CLOSE_BRACE,
}
use Rattle.il_lexer.specs.Classes.{is_digit, is_id_start, first_passes, first_is}
use Rattle.il_lexer.specs.Quotes.{quoted_length, quote_fault}
use Rattle.il_lexer.specs.Spellings.{is_barred, id_length, name_length, int_length, pairs_in, bytes_length}
use Rattle.il_lexer.specs.WordList.{word_number}
use Rattle.il_lexer.specs.Tokens.{Found, lexeme, token, token_or, word_or, named, named_or, id_token, quoted_name_token, string_token, digits_token, minus_token, directive_or, dot_token, hash_token, scope_or, bracket_token, equals_token, real_or, paren_token, slash_token, doubled_token, mark_token, token_at}
use Rattle.il_lexer.specs.Spelled.{IsId, IsName, IsWord, IsBytes, HasBytes, IsDecimal, IsHexadecimal, Signed, IsSpelling}
use Rattle.il_lexer.specs.Longest.{IsFree}
use Rattle.il_lexer.proofs.Fronts.{Front, front-rest, front-taken, first-is-cons, heads-same, differ}
use Rattle.il_lexer.proofs.SpelledTexts.{Quoted, quoted-front}
use Rattle.il_lexer.proofs.SpelledBytes.{PairsAt, pairs-front, bytes-front}
use Rattle.il_lexer.proofs.SpelledNames.{id-front, name-front, IntFront, int-front}
use Rattle.il_lexer.proofs.Marks as M
use Rattle.il_lexer.proofs.FirstBytes.{FirstByte, first-byte, start-no-digit, at-id, at-digit, at-mark, free-of}
use Rattle.il_lexer.proofs.Named.{named-spelled}

pub record SpelledAt (rest : List ℕ) (l : Lexeme) : Type 0 where
  pub front : Front (IsSpelling l.kind) rest l.length
  pub free : IsFree front.word front.after

-- what an answer says
ok_same : (a b : Lexeme) → ◌≡◌ {A = Found} (Ok a) (Ok b) → a ≡ b
ok_same a b h = cc

or_fault : (o : Option ℕ) (kind : TokenKind) (more e : ℕ) (l : Lexeme) → token_or o kind more (Err e) ≡ Ok l →
    (n : ℕ) × (o ≡ Some n) × (l ≡ lexeme kind (n + more))
or_fault None kind more e l h = cc
or_fault (Some n) kind more e l h = (n, refl, sym (ok_same _ l h))

or_mark : (o : Option ℕ) (kind : TokenKind) (more k : ℕ) (l : Lexeme) → token_or o kind more (token (Word k) 1) ≡ Ok l →
    ((n : ℕ) × (o ≡ Some n) × (l ≡ lexeme kind (n + more))) ⊎ (l ≡ lexeme (Word k) 1)
or_mark None kind more k l h = inr (sym (ok_same _ l h))
or_mark (Some n) kind more k l h = inl (n, refl, sym (ok_same _ l h))

-- a front of a kind, with nothing that bars it before its first byte
front_at : (b : ℕ) (bs : List ℕ) (kind : TokenKind) (n : ℕ) (l : Lexeme) → l ≡ lexeme kind n →
    Front (IsSpelling kind) (b ∷ bs) n → is_digit b ≡ false → nat_eq b 45 ≡ false → nat_eq b 47 ≡ false → SpelledAt (b ∷ bs) l
front_at b bs kind n l e f d m s =
    subst (λ x. SpelledAt (b ∷ bs) x) (sym e) (record { front = f; free = free-of b bs f.word f.after f.whole d m s })

-- a word of the table at the front
abbrev word_front : (k : ℕ) (w after rest : List ℕ) → IsWord k w → rest ≡ w ++ after → Front (IsSpelling (Word k)) rest (length w)
word_front k w after rest h e = record { word = w; after = after; holds = h; whole = e; long = refl }

at_id : (b : ℕ) (bs : List ℕ) (l : Lexeme) → is_id_start b ≡ true → id_token (b ∷ bs) ≡ Ok l → SpelledAt (b ∷ bs) l
unfolding id_token
at_id b bs l id h = go (name_length (b ∷ bs)) refl h
  where
    go : (o : Option ℕ) → name_length (b ∷ bs) ≡ o → named_or (b ∷ bs) o (Err 5) ≡ Ok l → SpelledAt (b ∷ bs) l
    go None e h = cc
    go (Some n) e h =
        front_at b bs (named (b ∷ bs) n).kind (named (b ∷ bs) n).length l (sym (ok_same _ l h)) (named-spelled (b ∷ bs) n e)
        (start-no-digit b id) (differ is_id_start b 45 id refl) (differ is_id_start b 47 id refl)

at_quote : (bs : List ℕ) (l : Lexeme) → quoted_name_token (39 ∷ bs) ≡ Ok l → SpelledAt (39 ∷ bs) l
unfolding quoted_name_token
at_quote bs l h =
    let f = or_fault (name_length (39 ∷ bs)) Name 0 (quote_fault 39 bs) l h in
    let same : f.0 + 0 ≡ f.0 = omega arith in
    front_at 39 bs Name f.0 l (f.2 ∙ ap (lexeme Name) same) (name-front (39 ∷ bs) f.0 f.1) refl refl refl

at_string : (bs : List ℕ) (l : Lexeme) → string_token (34 ∷ bs) ≡ Ok l → SpelledAt (34 ∷ bs) l
unfolding string_token
at_string bs l h =
    let f = or_fault (quoted_length 34 bs) QString 1 (quote_fault 34 bs) l h in
    let q : Quoted 34 bs f.0 = quoted-front 34 bs f.0 f.1 in
    let l1 : f.0 ≡ length q.text + 1 = q.long in
    let l2 : length (q.text ++ 34 ∷ []) ≡ length q.text + 1 = length-append q.text (34 ∷ []) in
    front_at 34 bs QString (f.0 + 1) l f.2
    (record {
      word = 34 ∷ (q.text ++ 34 ∷ []);
      after = q.after;
      holds = (q.text, q.holds, refl);
      whole = ap (λ x. 34 ∷ x) (q.whole ∙ sym (append_assoc q.text (34 ∷ []) q.after));
      long = omega arith;
    }) refl refl refl

-- integers
no_decimal : (w digits : List ℕ) → w ≡ 48 ∷ 120 ∷ digits → Signed IsDecimal w → ⊥
no_decimal w digits e h = go (subst (Signed IsDecimal) e h)
  where
    go : Signed IsDecimal (48 ∷ 120 ∷ digits) → ⊥
    go (inl d) = false≢true d.1.0
    go (inr (ds, d, is)) = (let bad : ◌≡◌ {A = ℕ} 48 45 = heads-same 48 45 (120 ∷ digits) ds is in omega arith)

slash_digit : (w : List ℕ) → IsDecimal w → w ≡ 47 ∷ [] → ⊥
slash_digit [] d e = d
slash_digit (x ∷ w) d e = true≢false (sym d.0 ∙ ap is_digit (heads-same x 47 w [] e))

slash_hex : (w digits : List ℕ) → w ≡ 48 ∷ 120 ∷ digits → w ≡ 47 ∷ [] → ⊥
slash_hex w digits h e = (let bad : ◌≡◌ {A = ℕ} 48 47 = heads-same 48 47 (120 ∷ digits) [] (sym h ∙ e) in omega arith)

minus_slash : (w : List ℕ) → 45 ∷ w ≡ 47 ∷ [] → ⊥
minus_slash w e = (let bad : ◌≡◌ {A = ℕ} 45 47 = heads-same 45 47 w [] e in omega arith)

no_minus_hex : (w digits : List ℕ) → w ≡ 48 ∷ 120 ∷ digits → Signed IsDecimal (45 ∷ w) → ⊥
no_minus_hex w digits e (inl d) = false≢true d.0
no_minus_hex w digits e (inr (ds, d, is)) = no_decimal w digits e (inl (subst IsDecimal (sym (ap (drop 1) is)) d))

int_free : {bs : List ℕ} {n : ℕ} → (f : IntFront bs n) → IsFree f.word f.after
int_free f = go f.holds
  where
    go : (IsDecimal f.word × (first_passes is_digit f.after ≡ false) × (is_barred f.after ≡ false)) ⊎ IsHexadecimal f.word →
        IsFree f.word f.after
    go (inl (d, digits, barred)) =
        record { digits = λ _. (digits, barred); slash = λ e. absurd (slash_digit f.word d e) }
    go (inr (digits, d, is)) =
        record { digits = λ h. absurd (no_decimal f.word digits is h); slash = λ e. absurd (slash_hex f.word digits is e) }

minus_free : {bs : List ℕ} {n : ℕ} → (f : IntFront bs n) → IsFree (45 ∷ f.word) f.after
minus_free f = go f.holds
  where
    go : (IsDecimal f.word × (first_passes is_digit f.after ≡ false) × (is_barred f.after ≡ false)) ⊎ IsHexadecimal f.word →
        IsFree (45 ∷ f.word) f.after
    go (inl (d, digits, barred)) =
        record { digits = λ _. (digits, barred); slash = λ e. absurd (minus_slash f.word e) }
    go (inr (digits, d, is)) =
        record { digits = λ h. absurd (no_minus_hex f.word digits is h); slash = λ e. absurd (minus_slash f.word e) }

int_spelled : {bs : List ℕ} {n : ℕ} → (f : IntFront bs n) → IsSpelling Int f.word
int_spelled f = go f.holds
  where
    go : (IsDecimal f.word × (first_passes is_digit f.after ≡ false) × (is_barred f.after ≡ false)) ⊎ IsHexadecimal f.word →
        IsSpelling Int f.word
    go (inl (d, digits, barred)) = inl (inl d)
    go (inr h) = inr (inl h)

minus_spelled : {bs : List ℕ} {n : ℕ} → (f : IntFront bs n) → IsSpelling Int (45 ∷ f.word)
minus_spelled f = go f.holds
  where
    go : (IsDecimal f.word × (first_passes is_digit f.after ≡ false) × (is_barred f.after ≡ false)) ⊎ IsHexadecimal f.word →
        IsSpelling Int (45 ∷ f.word)
    go (inl (d, digits, barred)) = inl (inr (f.word, d, refl))
    go (inr h) = inr (inr (f.word, h, refl))

at_digit : (bs : List ℕ) (l : Lexeme) → digits_token bs ≡ Ok l → SpelledAt bs l
unfolding digits_token
at_digit bs l h =
    let f = or_fault (int_length bs) Int 0 4 l h in
    let i : IntFront bs f.0 = int-front bs f.0 f.1 in
    let same : f.0 + 0 ≡ f.0 = omega arith in
    let s : SpelledAt bs (lexeme Int f.0) = record {
      front = record { word = i.word; after = i.after; holds = int_spelled i; whole = i.whole; long = i.long };
      free = int_free i;
    } in
    subst (λ x. SpelledAt bs x) (sym (f.2 ∙ ap (lexeme Int) same)) s

one_mark : (k b : ℕ) (bs : List ℕ) (l : Lexeme) → IsWord k (b ∷ []) → l ≡ lexeme (Word k) 1 → is_digit b ≡ false → nat_eq b 45 ≡ false →
    nat_eq b 47 ≡ false → SpelledAt (b ∷ bs) l
one_mark k b bs l w e d m s = front_at b bs (Word k) 1 l e (word_front k (b ∷ []) bs (b ∷ bs) w refl) d m s

at_minus : (bs : List ℕ) (l : Lexeme) → minus_token (45 ∷ bs) ≡ Ok l → SpelledAt (45 ∷ bs) l
unfolding minus_token
at_minus bs l h = elim (or_mark (int_length bs) Int 1 MINUS l h) [
  | inl f ↦
      let i : IntFront bs f.0 = int-front bs f.0 f.1 in
      let l1 : length i.word ≡ f.0 = i.long in
      let s : SpelledAt (45 ∷ bs) (lexeme Int (f.0 + 1)) = record {
        front = record {
          word = 45 ∷ i.word;
          after = i.after;
          holds = minus_spelled i;
          whole = ap (λ x. 45 ∷ x) i.whole;
          long = omega arith;
        };
        free = minus_free i;
      } in
      subst (λ x. SpelledAt (45 ∷ bs) x) (sym f.2) s
  | inr e ↦
      let s : SpelledAt (45 ∷ bs) (lexeme (Word MINUS) 1) = record {
        front = word_front MINUS (45 ∷ []) bs (45 ∷ bs) M.minus refl;
        free = record { digits = λ d. absurd (alone d); slash = λ e. absurd (minus_slash [] e) };
      } in
      subst (λ x. SpelledAt (45 ∷ bs) x) (sym e) s
]
  where
    alone : Signed IsDecimal (45 ∷ []) → ⊥
    alone (inl d) = false≢true d.0
    alone (inr (ds, d, is)) = subst IsDecimal (sym (ap (drop 1) is)) d

-- directives, hash words, names in brackets
kind_or : (k : ℕ) (w : List ℕ) (other : TokenKind) → IsSpelling other w → (o : Option ℕ) → word_number w ≡ o →
    IsSpelling (word_or o other) w
kind_or k w other h None e = h
kind_or k w other h (Some j) e = M.number-word w j e

at_dot : (bs : List ℕ) (l : Lexeme) → dot_token (46 ∷ bs) ≡ Ok l → SpelledAt (46 ∷ bs) l
unfolding dot_token
at_dot bs l h = go (id_length bs) refl h
  where
    go : (o : Option ℕ) → id_length bs ≡ o →
        directive_or (46 ∷ bs) o (cond (first_is 46 bs && first_is 46 (drop 1 bs)) (token (Word ELLIPSIS) 3) (Err 5)) ≡ Ok l →
        SpelledAt (46 ∷ bs) l
    go (Some n) e h =
        let f : Front IsId bs n = id-front bs n e in
        let one : n + 1 ≡ suc n = omega arith in
        let l1 : length f.word ≡ n = f.long in
        let taken : take (n + 1) (46 ∷ bs) ≡ 46 ∷ f.word =
        ap (λ m. take m (46 ∷ bs)) one ∙ ap (λ x. 46 ∷ x) (front-taken f) in
        front_at 46 bs (word_or (word_number (take (n + 1) (46 ∷ bs))) Unused) (n + 1) l (sym (ok_same _ l h))
        (record {
          word = 46 ∷ f.word;
          after = f.after;
          holds = kind_or 0 (46 ∷ f.word) Unused (f.word, f.holds, refl) (word_number (take (n + 1) (46 ∷ bs)))
              (ap word_number (sym taken));
          whole = ap (λ x. 46 ∷ x) f.whole;
          long = omega arith;
        }) refl refl refl
    go None e h = elim (cases_Bool (first_is 46 bs && first_is 46 (drop 1 bs))) [
      | inl t ↦
          let parts = and_parts (first_is 46 bs) (first_is 46 (drop 1 bs)) t in
          let first = first-is-cons 46 bs parts.0 in
          let next = first-is-cons 46 (drop 1 bs) parts.1 in
          let whole : 46 ∷ bs ≡ 46 ∷ 46 ∷ 46 ∷ next.0 =
          ap (λ x. 46 ∷ x) (first.1 ∙ ap (λ x. 46 ∷ x) (sym (ap (drop 1) first.1) ∙ next.1)) in
          front_at 46 bs (Word ELLIPSIS) 3 l
          (sym (ok_same _ l (sym (cond-true (first_is 46 bs && first_is 46 (drop 1 bs)) _ _ t) ∙ h)))
          (word_front ELLIPSIS (46 ∷ 46 ∷ 46 ∷ []) next.0 (46 ∷ bs) M.ellipsis whole) refl refl refl
      | inr t ↦
          (let bad : ◌≡◌ {A = Found} (Err 5) (Ok l) = sym (cond-false (first_is 46 bs && first_is 46 (drop 1 bs)) _ _ t) ∙ h in cc)
    ]

at_hash : (bs : List ℕ) (l : Lexeme) → hash_token (35 ∷ bs) ≡ Ok l → SpelledAt (35 ∷ bs) l
unfolding hash_token
at_hash bs l h =
    let f = or_fault (id_length bs) Hash 1 5 l h in
    let i : Front IsId bs f.0 = id-front bs f.0 f.1 in
    let l1 : length i.word ≡ f.0 = i.long in
    front_at 35 bs Hash (f.0 + 1) l f.2
    (record {
      word = 35 ∷ i.word;
      after = i.after;
      holds = (i.word, i.holds, refl);
      whole = ap (λ x. 35 ∷ x) i.whole;
      long = omega arith;
    }) refl refl refl

at_bracket : (bs : List ℕ) (l : Lexeme) → bracket_token (91 ∷ bs) ≡ Ok l → SpelledAt (91 ∷ bs) l
unfolding bracket_token
at_bracket bs l h = go (name_length bs) refl h
  where
    mark_there : l ≡ lexeme (Word OPEN_BRACKET) 1 → SpelledAt (91 ∷ bs) l
    mark_there e = one_mark OPEN_BRACKET 91 bs l M.open_bracket e refl refl refl

    go : (o : Option ℕ) → name_length bs ≡ o → scope_or (91 ∷ bs) o (token (Word OPEN_BRACKET) 1) ≡ Ok l → SpelledAt (91 ∷ bs) l
    go None e h = mark_there (sym (ok_same _ l h))
    go (Some n) e h =
        let one : n + 1 ≡ suc n = omega arith in
        let two : n + 2 ≡ suc (suc n) = omega arith in
        let f : Front IsName bs n = name-front bs n e in
        elim (cases_Bool (first_is 93 (drop (n + 1) (91 ∷ bs)))) [
          | inl t ↦
              let next = first-is-cons 93 (drop n bs) (ap (λ m. first_is 93 (drop m (91 ∷ bs))) (sym one) ∙ t) in
              let whole : 91 ∷ bs ≡ (91 ∷ (f.word ++ 93 ∷ [])) ++ next.0 =
              ap (λ x. 91 ∷ x) (f.whole ∙ ap (λ x. f.word ++ x) (sym (front-rest f) ∙ next.1) ∙ sym (append_assoc f.word (93 ∷ []) next.0)) in
              let l1 : length f.word ≡ n = f.long in
              let l2 : length (f.word ++ 93 ∷ []) ≡ length f.word + 1 = length-append f.word (93 ∷ []) in
              let long : length (91 ∷ (f.word ++ 93 ∷ [])) ≡ n + 2 = omega arith in
              let taken : take (n + 2) (91 ∷ bs) ≡ 91 ∷ (f.word ++ 93 ∷ []) =
              ap (take (n + 2)) whole ∙ take_at (91 ∷ (f.word ++ 93 ∷ [])) next.0 (n + 2) long in
              front_at 91 bs (word_or (word_number (take (n + 2) (91 ∷ bs))) Scope) (n + 2) l
              (sym (ok_same _ l (sym (cond-true (first_is 93 (drop (n + 1) (91 ∷ bs))) _ _ t) ∙ h)))
              (record {
                word = 91 ∷ (f.word ++ 93 ∷ []);
                after = next.0;
                holds = kind_or 0 (91 ∷ (f.word ++ 93 ∷ [])) Scope (f.word, f.holds, refl) (word_number (take (n + 2) (91 ∷ bs)))
                    (ap word_number (sym taken));
                whole = whole;
                long = long;
              }) refl refl refl
          | inr t ↦ mark_there (sym (ok_same _ l (sym (cond-false (first_is 93 (drop (n + 1) (91 ∷ bs))) _ _ t) ∙ h)))
        ]

-- bytes
at_equals : (bs : List ℕ) (l : Lexeme) → equals_token (61 ∷ bs) ≡ Ok l → SpelledAt (61 ∷ bs) l
unfolding equals_token
at_equals bs l h = elim (or_mark (bytes_length bs) EqBytes 1 EQUALS l h) [
  | inl f ↦
      let b : Front HasBytes bs f.0 = bytes-front bs f.0 f.1 in
      let l1 : length b.word ≡ f.0 = b.long in
      front_at 61 bs EqBytes (f.0 + 1) l f.2
      (record {
        word = 61 ∷ b.word;
        after = b.after;
        holds = (b.word, b.holds, refl);
        whole = ap (λ x. 61 ∷ x) b.whole;
        long = omega arith;
      }) refl refl refl
  | inr e ↦ one_mark EQUALS 61 bs l M.equals e refl refl refl
]

at_paren : (bs : List ℕ) (l : Lexeme) → paren_token (40 ∷ bs) ≡ Ok l → SpelledAt (40 ∷ bs) l
unfolding paren_token
at_paren bs l h = go (pairs_in bs) refl h
  where
    mark_there : l ≡ lexeme (Word OPEN_PAREN) 1 → SpelledAt (40 ∷ bs) l
    mark_there e = one_mark OPEN_PAREN 40 bs l M.open_paren e refl refl refl

    is_real : (n : ℕ) (w : List ℕ) → IsBytes n w → (nat_eq n 4 || nat_eq n 8) ≡ true → IsSpelling RealBytes w
    is_real n w b t = elim (or_cases (nat_eq n 4) (nat_eq n 8) t) [
      | inl e ↦ inl (subst (λ m. IsBytes m w) (eqb-true n 4 e) b)
      | inr e ↦ inr (subst (λ m. IsBytes m w) (eqb-true n 8 e) b)
    ]

    go : (o : Option Pairs) → pairs_in bs ≡ o → real_or o (token (Word OPEN_PAREN) 1) ≡ Ok l → SpelledAt (40 ∷ bs) l
    go None e h = mark_there (sym (ok_same _ l h))
    go (Some p) e h = elim (cases_Bool (nat_eq p.count 4 || nat_eq p.count 8)) [
      | inl t ↦
          let at : PairsAt bs p.bytes p.count = pairs-front bs p.bytes p.count e in
          let l1 : p.bytes ≡ length at.lead + length at.inner + 1 = at.long in
          let l2 : length (at.lead ++ (at.inner ++ 41 ∷ [])) ≡ length at.lead + length (at.inner ++ 41 ∷ []) =
          length-append at.lead (at.inner ++ 41 ∷ []) in
          let l3 : length (at.inner ++ 41 ∷ []) ≡ length at.inner + 1 = length-append at.inner (41 ∷ []) in
          front_at 40 bs RealBytes (p.bytes + 1) l
          (sym (ok_same _ l (sym (cond-true (nat_eq p.count 4 || nat_eq p.count 8) _ _ t) ∙ h)))
          (record {
            word = 40 ∷ (at.lead ++ (at.inner ++ 41 ∷ []));
            after = at.after;
            holds = is_real p.count (40 ∷ (at.lead ++ (at.inner ++ 41 ∷ [])))
                (record { lead = at.lead; pairs = at.inner; gap = at.gap_is; spelled = at.spelled; is = refl }) t;
            whole = ap (λ x. 40 ∷ x) (at.whole ∙ ap (λ x. at.lead ++ x) (sym (append_assoc at.inner (41 ∷ []) at.after))
                ∙ sym (append_assoc at.lead (at.inner ++ 41 ∷ []) at.after));
            long = omega arith;
          }) refl refl refl
      | inr t ↦ mark_there (sym (ok_same _ l (sym (cond-false (nat_eq p.count 4 || nat_eq p.count 8) _ _ t) ∙ h)))
    ]

-- marks
at_slash : (bs : List ℕ) (l : Lexeme) → slash_token (47 ∷ bs) ≡ Ok l → SpelledAt (47 ∷ bs) l
unfolding slash_token
at_slash bs l h = elim (cases_Bool (first_is 42 bs)) [
  | inl t ↦ (let bad : ◌≡◌ {A = Found} (Err 2) (Ok l) = sym (cond-true (first_is 42 bs) _ _ t) ∙ h in cc)
  | inr t ↦
      let s : SpelledAt (47 ∷ bs) (lexeme (Word SLASH) 1) = record {
        front = word_front SLASH (47 ∷ []) bs (47 ∷ bs) M.slash refl;
        free = record { digits = λ d. absurd (no_digits d); slash = λ _. t };
      } in
      subst (λ x. SpelledAt (47 ∷ bs) x) (ok_same _ l (sym (cond-false (first_is 42 bs) _ _ t) ∙ h)) s
]
  where
    no_digits : Signed IsDecimal (47 ∷ []) → ⊥
    no_digits (inl d) = false≢true d.0
    no_digits (inr (ds, d, is)) = (let bad : ◌≡◌ {A = ℕ} 47 45 = heads-same 47 45 [] ds is in omega arith)

at_doubled : (b one two : ℕ) (bs : List ℕ) (l : Lexeme) → IsWord one (b ∷ []) → IsWord two (b ∷ b ∷ []) → is_digit b ≡ false →
    nat_eq b 45 ≡ false → nat_eq b 47 ≡ false → doubled_token b one two (b ∷ bs) ≡ Ok l → SpelledAt (b ∷ bs) l
at_doubled b one two bs l w1 w2 d m s h = elim (cases_Bool (first_is b bs)) [
  | inl t ↦
      let next = first-is-cons b bs t in
      front_at b bs (Word two) 2 l (sym (ok_same _ l (sym (cond-true (first_is b bs) _ _ t) ∙ h)))
      (word_front two (b ∷ b ∷ []) next.0 (b ∷ bs) w2 (ap (λ x. b ∷ x) next.1)) d m s
  | inr t ↦ one_mark one b bs l w1 (sym (ok_same _ l (sym (cond-false (first_is b bs) _ _ t) ∙ h))) d m s
]

pub mark-found : (b : ℕ) (l : Lexeme) → mark_token b ≡ Ok l → (k : ℕ) × (l ≡ lexeme (Word k) 1) × IsWord k (b ∷ [])
unfolding mark_token
mark-found b l h = one 123 OPEN_BRACE M.open_brace _ h
    (λ h. one 125 CLOSE_BRACE M.close_brace _ h
    (λ h. one 41 CLOSE_PAREN M.close_paren _ h
    (λ h. one 93 CLOSE_BRACKET M.close_bracket _ h
    (λ h. one 60 LESS M.less _ h
    (λ h. one 62 GREATER M.greater _ h
    (λ h. one 44 COMMA M.comma _ h
    (λ h. one 43 PLUS M.plus _ h
    (λ h. one 38 AMPERSAND M.ampersand _ h
    (λ h. one 42 STAR M.star _ h (λ h. none h))))))))))
  where
    none : ◌≡◌ {A = Found} (Err 5) (Ok l) → (k : ℕ) × (l ≡ lexeme (Word k) 1) × IsWord k (b ∷ [])
    none h = cc

    one : (c k : ℕ) → IsWord k (c ∷ []) → (other : Found) → cond (nat_eq b c) (token (Word k) 1) other ≡ Ok l →
        (other ≡ Ok l → (k : ℕ) × (l ≡ lexeme (Word k) 1) × IsWord k (b ∷ [])) → (k : ℕ) × (l ≡ lexeme (Word k) 1) × IsWord k (b ∷ [])
    one c k w other h more = elim (cases_Bool (nat_eq b c)) [
      | inl t ↦ (k, sym (ok_same _ l (sym (cond-true (nat_eq b c) _ _ t) ∙ h)), subst (λ x. IsWord k (x ∷ [])) (sym (eqb-true b c t)) w)
      | inr t ↦ more (sym (cond-false (nat_eq b c) _ _ t) ∙ h)
    ]

-- any token
pub found-spelled : (rest : List ℕ) (l : Lexeme) → token_at rest ≡ Ok l → SpelledAt rest l
unfolding token_at
found-spelled [] l h = cc
found-spelled (b ∷ bs) l h = go (first-byte b)
  where
    at : (c : ℕ) → b ≡ c → ((token_at (c ∷ bs) ≡ Ok l) → SpelledAt (c ∷ bs) l) → SpelledAt (b ∷ bs) l
    at c e found = subst (λ x. SpelledAt (x ∷ bs) l) (sym e) (found (subst (λ x. token_at (x ∷ bs) ≡ Ok l) e h))

    go : FirstByte b → SpelledAt (b ∷ bs) l
    go (FirstByte.id e) = at_id b bs l e (sym (at-id b bs e) ∙ h)
    go (FirstByte.digit e) = at_digit (b ∷ bs) l (sym (at-digit b bs e) ∙ h)
    go (FirstByte.quote e) = at 39 e (at_quote bs l)
    go (FirstByte.string e) = at 34 e (at_string bs l)
    go (FirstByte.dot e) = at 46 e (at_dot bs l)
    go (FirstByte.hash e) = at 35 e (at_hash bs l)
    go (FirstByte.bracket e) = at 91 e (at_bracket bs l)
    go (FirstByte.minus e) = at 45 e (at_minus bs l)
    go (FirstByte.equals e) = at 61 e (at_equals bs l)
    go (FirstByte.paren e) = at 40 e (at_paren bs l)
    go (FirstByte.slash e) = at 47 e (at_slash bs l)
    go (FirstByte.colon e) = at 58 e (at_doubled 58 COLON DOUBLE_COLON bs l M.colon M.double_colon refl refl refl)
    go (FirstByte.bang e) = at 33 e (at_doubled 33 BANG DOUBLE_BANG bs l M.bang M.double_bang refl refl refl)
    go (FirstByte.mark m) =
        let f = mark-found b l (sym (at-mark b bs m) ∙ h) in
        one_mark f.0 b bs l f.2 f.1 m.digit m.minus m.slash
