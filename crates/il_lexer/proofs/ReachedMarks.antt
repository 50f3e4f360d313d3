-- Where a mark, a directive or a word in brackets stands, no shorter token is found; and so for each kind.
use Rattle.std.proofs.Common.{◌≡◌, ℕ, suc, ◌+◌, ◌<◌, ◌≤◌, Bool, true, false, not, cond, ◌&&◌, ◌||◌, nat_eq, ◌⊎◌, inl, inr, List, [], ◌∷◌, ◌++◌, length, take, drop, codes, Option, None, Some, Ok, Err, refl, ap, sym, subst, ◌∙◌, arith, length-append, append_assoc, take_at, true≢false}
use Rattle.std.proofs.lemmas.Bool.{cases_Bool, cond-true, cond-false, eqb-true, false≢true, and_parts, or_cases}
use Rattle.std.specs.Option.{option_map}
use Rattle.std.specs.Str.{bytes_eq}
use Rattle.std.specs.Cmp.Lexicographic.{bytes_decides}
use Rattle.il_lexer.specs.declared.pairs.Pairs.{Pairs}
use Rattle.il_lexer.specs.declared.types.Lexeme.{Lexeme}
use Rattle.il_lexer.specs.declared.types.TokenKind.{TokenKind}
use Rattle.il_lexer.specs.declared.types.TokenKind.TheVariants.{Name, Scope, Int, QString, EqBytes, ByteArray, RealBytes, Hash, Unused, Word}
use Rattle.il_lexer.specs.declared.word.TheConstants.{BANG, DOUBLE_BANG, COLON, DOUBLE_COLON, MINUS, EQUALS, OPEN_PAREN, OPEN_BRACKET, ELLIPSIS, SLASH}
use Rattle.il_lexer.specs.Classes.{is_digit, is_hex, is_id_start, is_id_part, first_passes, first_is}
use Rattle.il_lexer.specs.Runs.{front}
use Rattle.il_lexer.specs.Quotes.{quoted_length, quote_fault}
use Rattle.il_lexer.specs.Spellings.{is_barred, id_length, name_length, int_length, pairs_in, bytes_length}
use Rattle.il_lexer.specs.WordList.{word_number}
use Rattle.il_lexer.specs.Tokens.{Found, lexeme, token, token_or, word_or, quoted_name_token, string_token, digits_token, minus_token, directive_or, dot_token, hash_token, scope_or, bracket_token, equals_token, real_or, paren_token, slash_token, doubled_token, mark_token, token_at}
use Rattle.il_lexer.specs.Spelled.{IsId, IsName, IsWord, IsGap, IsPairs, IsDecimal, IsHexadecimal, IsSpelling}
use Rattle.il_lexer.specs.Longest.{is_word, gap_begins, ends_parenthesis, ends_word}
use Rattle.il_lexer.proofs.Fronts.{Front, front-rest, first-is-cons, front-stops, not-true, eq-self}
use Rattle.il_lexer.proofs.SpelledBytes.{PairsAt, pairs-front}
use Rattle.il_lexer.proofs.SpelledNames.{id-front, name-front, name-some, IntFront, int-front}
use Rattle.il_lexer.proofs.Marks as M
use Rattle.il_lexer.proofs.FirstBytes.{FirstByte, first-byte, at-digit, at-mark}
use Rattle.il_lexer.proofs.Named.{bytes-some}
use Rattle.il_lexer.proofs.FoundTokens.{mark-found}
use Rattle.il_lexer.proofs.Reached as R
use Rattle.il_lexer.proofs.Reached.{Reach, Bars, scope-found, directive-found}
use Rattle.il_lexer.proofs.ReachedWords.{alone, exactly, no-bytes, whole-front, no-bytes-behind, reach-letters}

ok_same : (a b : Lexeme) → ◌≡◌ {A = Found} (Ok a) (Ok b) → a ≡ b
ok_same a b h = cc

-- a word of one byte
one_byte : (j k : ℕ) (w : List ℕ) → ◌≡◌ {A = Found} (token (Word j) 1) (Ok (lexeme (Word k) (suc (length w)))) → (j ≡ k) × (w ≡ [])
one_byte j k w h =
    let e : lexeme (Word j) 1 ≡ lexeme (Word k) (suc (length w)) = ok_same _ _ h in
    let kinds : Word j ≡ Word k = ap (λ l. l.kind) e in
    let sizes : 1 ≡ suc (length w) = ap (λ l. l.length) e in
    (cc, no-bytes w (omega arith))

-- a kind that is no word
no_word : (o : Option ℕ) (kind : TokenKind) (more e k n : ℕ) → is_word kind ≡ false →
    ◌≡◌ {A = Found} (token_or o kind more (Err e)) (Ok (lexeme (Word k) n)) → ⊥
no_word None kind more e k n h f = cc
no_word (Some m) kind more e k n h f =
    let kinds : kind ≡ Word k = ap (λ l. l.kind) (ok_same _ _ f) in
    true≢false (sym (ap is_word kinds) ∙ h)

or_one : (o : Option ℕ) (kind : TokenKind) (more j k : ℕ) (w : List ℕ) → is_word kind ≡ false →
    ◌≡◌ {A = Found} (token_or o kind more (token (Word j) 1)) (Ok (lexeme (Word k) (suc (length w)))) → (j ≡ k) × (w ≡ [])
or_one None kind more j k w h f = one_byte j k w f
or_one (Some m) kind more j k w h f =
    let kinds : kind ≡ Word k = ap (λ l. l.kind) (ok_same _ _ f) in
    absurd (true≢false (sym (ap is_word kinds) ∙ h))

-- a longer token than a mark of one byte, where the mark doesn't end there
longer_there : (k b : ℕ) (after : List ℕ) (l : Lexeme) → token_at (b ∷ after) ≡ Ok l → 1 < l.length →
    ¬ (ends_word (b ∷ []) after ≡ true) → Reach (Word k) (b ∷ []) after
longer_there k b after l e lt never =
    record {
      found = l;
      is = e;
      long = omega arith;
      wins = λ h. absurd (let one : l.length ≡ 1 = h in omega arith);
      stops = λ own h. absurd (never h);
    }

-- the word is one byte, and the token at it is known for that byte alone
single : (k j b : ℕ) (w after : List ℕ) → (j ≡ k) × (w ≡ []) → Reach (Word j) (b ∷ []) after → Reach (Word k) (b ∷ w) after
single k j b w after e r =
    subst (λ x. Reach (Word k) (b ∷ x) after) (sym e.1) (subst (λ i. Reach (Word i) (b ∷ []) after) e.0 r)

reach_slash : (k : ℕ) (w after : List ℕ) → IsWord k (47 ∷ w) → (47 ∷ w ≡ 47 ∷ [] → first_is 42 after ≡ false) → Reach (Word k) (47 ∷ w) after
unfolding token_at slash_token
reach_slash k w after word bars = go (first_is 42 w) (alone k (47 ∷ w) word)
  where
    go : (t : Bool) → cond t (Err 2) (token (Word SLASH) 1) ≡ Ok (lexeme (Word k) (suc (length w))) → Reach (Word k) (47 ∷ w) after
    go true h = cc
    go false h =
        let one = one_byte SLASH k w h in
        single k SLASH 47 w after one
        (exactly SLASH (47 ∷ []) after (cond-false (first_is 42 after) _ _ (bars (ap (λ x. 47 ∷ x) one.1))))

-- integers behind a `-`
int_first : {bs : List ℕ} {n : ℕ} → (f : IntFront bs n) → (0 < n) × (first_passes is_digit bs ≡ true)
int_first {bs} {n} f = go f.word f.holds f.whole f.long
  where
    go : (w : List ℕ) →
        (IsDecimal w × (first_passes is_digit f.after ≡ false) × (is_barred f.after ≡ false)) ⊎ IsHexadecimal w →
        bs ≡ w ++ f.after → length w ≡ n → (0 < n) × (first_passes is_digit bs ≡ true)
    go [] (inl (d, x, y)) e l = absurd d
    go (b ∷ w) (inl (d, x, y)) e l = (omega arith, ap (first_passes is_digit) e ∙ d.0)
    go w (inr (ds, h, is)) e l = (
      let l1 : length w ≡ suc (suc (length ds)) = ap length is in omega arith,
      ap (first_passes is_digit) (e ∙ ap (λ x. x ++ f.after) is),
    )

reach_minus : (k : ℕ) (w after : List ℕ) → IsWord k (45 ∷ w) → Reach (Word k) (45 ∷ w) after
unfolding token_at minus_token
reach_minus k w after word =
    single k MINUS 45 w after (or_one (int_length w) Int 1 MINUS k w refl (alone k (45 ∷ w) word)) (go (int_length after) refl)
  where
    go : (o : Option ℕ) → int_length after ≡ o → Reach (Word MINUS) (45 ∷ []) after
    go None e = exactly MINUS (45 ∷ []) after (ap (λ o. token_or o Int 1 (token (Word MINUS) 1)) e)
    go (Some n) e =
        let f = int_first (int-front after n e) in
        let some : 0 < n = f.0 in
        longer_there MINUS 45 after (lexeme Int (n + 1)) (ap (λ o. token_or o Int 1 (token (Word MINUS) 1)) e) (omega arith)
        (λ h. true≢false (sym f.1 ∙ not-true (first_passes is_digit after) h))

reach_equals : (k : ℕ) (w after : List ℕ) → IsWord k (61 ∷ w) → Reach (Word k) (61 ∷ w) after
unfolding token_at equals_token
reach_equals k w after word =
    single k EQUALS 61 w after (or_one (bytes_length w) EqBytes 1 EQUALS k w refl (alone k (61 ∷ w) word)) (go (bytes_length after) refl)
  where
    go : (o : Option ℕ) → bytes_length after ≡ o → Reach (Word EQUALS) (61 ∷ []) after
    go None e = exactly EQUALS (61 ∷ []) after (ap (λ o. token_or o EqBytes 1 (token (Word EQUALS) 1)) e)
    go (Some n) e =
        let some : 0 < n = bytes-some after n e in
        longer_there EQUALS 61 after (lexeme EqBytes (n + 1)) (ap (λ o. token_or o EqBytes 1 (token (Word EQUALS) 1)) e) (omega arith)
        (λ h. (let bad : None ≡ Some n =
        sym (no-bytes-behind after h) ∙ e in cc))

-- behind a `(` that ends there stands one pair at most
begun_gap : {g : List ℕ} → IsGap g → 0 < length g → (after : List ℕ) → gap_begins (g ++ after) ≡ true
begun_gap IsGap.none lt after = absurd (omega arith)
begun_gap (IsGap.blank {b = b} {bs = bs} h more) lt after =
    ap (λ t. t || (nat_eq b 47 && (first_is 42 (bs ++ after) || first_is 47 (bs ++ after)))) h
begun_gap (IsGap.line text {bs = bs} each more is) lt after = ap (λ g. gap_begins (g ++ after)) is
begun_gap (IsGap.block {text = text} {bs = bs} closed more is) lt after = ap (λ g. gap_begins (g ++ after)) is

not_gap_first : (after : List ℕ) → gap_begins after ≡ true → ends_parenthesis after ≡ false
not_gap_first after h =
    ap (λ t. not t && not (first_passes is_hex after && first_passes is_hex (drop 1 after) && gap_begins (drop 2 after))) h

and_true : (x y z : Bool) → x ≡ true → y ≡ true → z ≡ true → (x && y && z) ≡ true
and_true true true z a b c = c
and_true true false z a b c = b
and_true false y z a b c = a

second_false : (x y : Bool) → y ≡ false → (x && y) ≡ false
second_false true y h = h
second_false false y h = refl

not_pairs_first : (a b : ℕ) (rest : List ℕ) → is_hex a ≡ true → is_hex b ≡ true → gap_begins rest ≡ true →
    ends_parenthesis (a ∷ b ∷ rest) ≡ false
not_pairs_first a b rest ha hb hc =
    second_false (not (gap_begins (a ∷ b ∷ rest))) (not (is_hex a && is_hex b && gap_begins rest))
    (ap not (and_true (is_hex a) (is_hex b) (gap_begins rest) ha hb hc))

few_inner : {n : ℕ} {inner : List ℕ} → IsPairs n inner → (after : List ℕ) → ends_parenthesis (inner ++ 41 ∷ after) ≡ true → n ≤ 1
few_inner (IsPairs.none en is) after h = omega arith
few_inner (IsPairs.last en ha hb hg is) after h = omega arith
few_inner (IsPairs.more {a = a} {b = b} {g = g} {rest = rest} en ha hb hg some tail is) after h =
    absurd (false≢true (sym (not_pairs_first a b ((g ++ rest) ++ 41 ∷ after) ha hb
    (ap gap_begins (append_assoc g rest (41 ∷ after)) ∙ begun_gap hg some (rest ++ 41 ∷ after)))
    ∙ sym (ap (λ x. ends_parenthesis (x ++ 41 ∷ after)) is) ∙ h))

few_pairs : {after : List ℕ} {bytes n : ℕ} → PairsAt after bytes n → ends_parenthesis after ≡ true → n ≤ 1
few_pairs {after} {bytes} {n} p h = go p.lead p.gap_is p.whole
  where
    go : (lead : List ℕ) → IsGap lead → after ≡ lead ++ (p.inner ++ 41 ∷ p.after) → n ≤ 1
    go [] g e = few_inner p.spelled p.after (sym (ap ends_parenthesis e) ∙ h)
    go (x ∷ lead) g e =
        absurd (false≢true (sym (not_gap_first (x ∷ (lead ++ (p.inner ++ 41 ∷ p.after))) (begun_gap g (omega arith) (p.inner ++ 41 ∷ p.after)))
        ∙ sym (ap ends_parenthesis e) ∙ h))

reach_paren : (k : ℕ) (w after : List ℕ) → IsWord k (40 ∷ w) → Reach (Word k) (40 ∷ w) after
unfolding token_at paren_token
reach_paren k w after word =
    single k OPEN_PAREN 40 w after (is_mark (pairs_in w) (alone k (40 ∷ w) word)) (go (pairs_in after) refl)
  where
    is_mark : (o : Option Pairs) → real_or o (token (Word OPEN_PAREN) 1) ≡ Ok (lexeme (Word k) (suc (length w))) → (OPEN_PAREN ≡ k) × (w ≡ [])
    is_mark None h = one_byte OPEN_PAREN k w h
    is_mark (Some p) h = real (nat_eq p.count 4 || nat_eq p.count 8) h
      where
        real : (t : Bool) → cond t (token RealBytes (p.bytes + 1)) (token (Word OPEN_PAREN) 1) ≡ Ok (lexeme (Word k) (suc (length w))) →
            (OPEN_PAREN ≡ k) × (w ≡ [])
        real true h = (let kinds : RealBytes ≡ Word k = ap (λ l. l.kind) (ok_same _ _ h) in cc)
        real false h = one_byte OPEN_PAREN k w h

    four_or_eight : (n : ℕ) → (nat_eq n 4 || nat_eq n 8) ≡ true → n ≤ 1 → ⊥
    four_or_eight n h le = elim (or_cases (nat_eq n 4) (nat_eq n 8) h) [
      | inl e ↦ (let same : n ≡ 4 = eqb-true n 4 e in omega arith)
      | inr e ↦ (let same : n ≡ 8 = eqb-true n 8 e in omega arith)
    ]

    go : (o : Option Pairs) → pairs_in after ≡ o → Reach (Word OPEN_PAREN) (40 ∷ []) after
    go None e = exactly OPEN_PAREN (40 ∷ []) after (ap (λ o. real_or o (token (Word OPEN_PAREN) 1)) e)
    go (Some p) e = elim (cases_Bool (nat_eq p.count 4 || nat_eq p.count 8)) [
      | inl t ↦
          let at : PairsAt after p.bytes p.count = pairs-front after p.bytes p.count e in
          let long : p.bytes ≡ length at.lead + length at.inner + 1 = at.long in
          longer_there OPEN_PAREN 40 after (lexeme RealBytes (p.bytes + 1))
          (ap (λ o. real_or o (token (Word OPEN_PAREN) 1)) e ∙ cond-true (nat_eq p.count 4 || nat_eq p.count 8) _ _ t) (omega arith)
          (λ h. four_or_eight p.count t (few_pairs at h))
      | inr t ↦
          exactly OPEN_PAREN (40 ∷ []) after
          (ap (λ o. real_or o (token (Word OPEN_PAREN) 1)) e ∙ cond-false (nat_eq p.count 4 || nat_eq p.count 8) _ _ t)
    ]

-- brackets
or2 : (x y : Bool) → not (x || y) ≡ true → (x ≡ false) × (y ≡ false)
or2 true y h = absurd (false≢true h)
or2 false true h = absurd (false≢true h)
or2 false false h = (refl, refl)

no_name : (after : List ℕ) → not (first_passes is_id_start after || first_is 39 after) ≡ true → name_length after ≡ None
no_name [] h = refl
no_name (b ∷ after) h =
    let parts = or2 (is_id_start b) (nat_eq b 39) h in
    ap (option_map _) (cond-false (nat_eq b 39) _ _ parts.1 ∙ cond-false (is_id_start b) _ _ parts.0)

reach_bracket : (k : ℕ) (w after : List ℕ) → IsWord k (91 ∷ w) → Reach (Word k) (91 ∷ w) after
unfolding token_at bracket_token
reach_bracket k w after word = go (name_length w) refl (alone k (91 ∷ w) word)
  where
    on : (o : Option ℕ) → name_length after ≡ o → Reach (Word OPEN_BRACKET) (91 ∷ []) after
    on None e = exactly OPEN_BRACKET (91 ∷ []) after (ap (λ o. scope_or (91 ∷ after) o (token (Word OPEN_BRACKET) 1)) e)
    on (Some n) e = elim (cases_Bool (first_is 93 (drop (n + 1) (91 ∷ after)))) [
      | inl t ↦
          longer_there OPEN_BRACKET 91 after (lexeme (word_or (word_number (take (n + 2) (91 ∷ after))) Scope) (n + 2))
          (ap (λ o. scope_or (91 ∷ after) o (token (Word OPEN_BRACKET) 1)) e ∙ cond-true (first_is 93 (drop (n + 1) (91 ∷ after))) _ _ t)
          (omega arith) (λ h. (let bad : None ≡ Some n = sym (no_name after h) ∙ e in cc))
      | inr t ↦
          exactly OPEN_BRACKET (91 ∷ []) after
          (ap (λ o. scope_or (91 ∷ after) o (token (Word OPEN_BRACKET) 1)) e ∙ cond-false (first_is 93 (drop (n + 1) (91 ∷ after))) _ _ t)
    ]

    in_brackets : (n : ℕ) → name_length w ≡ Some n → first_is 93 (drop (n + 1) (91 ∷ w)) ≡ true → n + 2 ≡ suc (length w) →
        Reach (Word k) (91 ∷ w) after
    in_brackets n e t size =
        let f : Front IsName w n = name-front w n e in
        let one : n + 1 ≡ suc n = omega arith in
        let next = first-is-cons 93 (drop n w) (ap (λ m. first_is 93 (drop m (91 ∷ w))) (sym one) ∙ t) in
        let there : w ≡ f.word ++ 93 ∷ next.0 = f.whole ∙ ap (λ x. f.word ++ x) (sym (front-rest f) ∙ next.1) in
        let l1 : length f.word ≡ n = f.long in
        let l2 : length w ≡ length f.word + suc (length next.0) = ap length there ∙ length-append f.word (93 ∷ next.0) in
        let none : next.0 ≡ [] = no-bytes next.0 (omega arith) in
        let is : w ≡ f.word ++ 93 ∷ [] = there ∙ ap (λ x. f.word ++ 93 ∷ x) none in
        let long : length f.word + 2 ≡ suc (length w) = omega arith in
        exactly k (91 ∷ w) after
        (ap (λ x. token_at (91 ∷ x)) (ap (λ x. x ++ after) is ∙ append_assoc f.word (93 ∷ []) after)
        ∙ scope-found f.word after f.holds
        ∙ ap (λ x. token (word_or (word_number (91 ∷ x)) Scope) (length f.word + 2)) (sym is)
        ∙ ap (λ o. token (word_or o Scope) (length f.word + 2)) (M.word-number (91 ∷ w) k word)
        ∙ ap (token (Word k)) long)

    go : (o : Option ℕ) → name_length w ≡ o → scope_or (91 ∷ w) o (token (Word OPEN_BRACKET) 1) ≡ Ok (lexeme (Word k) (suc (length w))) →
        Reach (Word k) (91 ∷ w) after
    go None e h = single k OPEN_BRACKET 91 w after (one_byte OPEN_BRACKET k w h) (on (name_length after) refl)
    go (Some n) e h = elim (cases_Bool (first_is 93 (drop (n + 1) (91 ∷ w)))) [
      | inl t ↦
          in_brackets n e t (ap (λ l. l.length)
          (ok_same (lexeme (word_or (word_number (take (n + 2) (91 ∷ w))) Scope) (n + 2)) (lexeme (Word k) (suc (length w)))
          (sym (cond-true (first_is 93 (drop (n + 1) (91 ∷ w))) _ _ t) ∙ h)))
      | inr t ↦
          single k OPEN_BRACKET 91 w after
          (one_byte OPEN_BRACKET k w (sym (cond-false (first_is 93 (drop (n + 1) (91 ∷ w))) _ _ t) ∙ h)) (on (name_length after) refl)
    ]

-- directives
no_dots : (w : List ℕ) → IsId w → bytes_eq w (46 ∷ 46 ∷ []) ≡ false
no_dots w id = go (bytes_eq w (46 ∷ 46 ∷ [])) refl
  where
    go : (t : Bool) → bytes_eq w (46 ∷ 46 ∷ []) ≡ t → t ≡ false
    go false e = refl
    go true e = absurd (false≢true (subst IsId ((bytes_decides w (46 ∷ 46 ∷ [])).0 e) id).0)

directive_ends : (w after : List ℕ) → IsId w → ends_word (46 ∷ w) after ≡ true → first_passes is_id_part after ≡ false
directive_ends w after id h =
    not-true (first_passes is_id_part after) (sym (cond-false (bytes_eq w (46 ∷ 46 ∷ [])) _ _ (no_dots w id)) ∙ h)

reach_directive : (k : ℕ) (w after : List ℕ) → IsWord k (46 ∷ w) → IsId w → Reach (Word k) (46 ∷ w) after
reach_directive k w after word id =
    record {
      found = lexeme (word_or (word_number (take ((length w + front is_id_part after) + 1) (46 ∷ (w ++ after)))) Unused)
          ((length w + front is_id_part after) + 1);
      is = directive-found w after id;
      long = omega arith;
      wins = λ e.
          let size : length (46 ∷ w) ≡ (length w + front is_id_part after) + 1 = sym e in
          inl (ap (λ x. word_or (word_number x) Unused) (take_at (46 ∷ w) after ((length w + front is_id_part after) + 1) size)
          ∙ ap (λ o. word_or o Unused) (M.word-number (46 ∷ w) k word));
      stops = λ own e.
          let none : front is_id_part after ≡ 0 = front-stops is_id_part after (directive_ends w after id e) in
          omega arith;
    }

reach_dot : (k : ℕ) (w after : List ℕ) → IsWord k (46 ∷ w) → Reach (Word k) (46 ∷ w) after
unfolding token_at dot_token
reach_dot k w after word = go (id_length w) refl (alone k (46 ∷ w) word)
  where
    dots : (first_is 46 w && first_is 46 (drop 1 w)) ≡ true → ELLIPSIS ≡ k → 3 ≡ suc (length w) → Reach (Word k) (46 ∷ w) after
    dots t same size =
        let parts = and_parts (first_is 46 w) (first_is 46 (drop 1 w)) t in
        let first = first-is-cons 46 w parts.0 in
        let next = first-is-cons 46 first.0 (ap (λ x. first_is 46 (drop 1 x)) (sym first.1) ∙ parts.1) in
        let whole : w ≡ 46 ∷ 46 ∷ next.0 = first.1 ∙ ap (λ x. 46 ∷ x) next.1 in
        let l1 : length w ≡ suc (suc (length next.0)) = ap length whole in
        let none : next.0 ≡ [] = no-bytes next.0 (omega arith) in
        subst (λ x. Reach (Word k) (46 ∷ x) after) (sym (whole ∙ ap (λ x. 46 ∷ 46 ∷ x) none))
        (subst (λ i. Reach (Word i) (46 ∷ 46 ∷ 46 ∷ []) after) same (exactly ELLIPSIS (46 ∷ 46 ∷ 46 ∷ []) after refl))

    go : (o : Option ℕ) → id_length w ≡ o →
        directive_or (46 ∷ w) o (cond (first_is 46 w && first_is 46 (drop 1 w)) (token (Word ELLIPSIS) 3) (Err 5))
        ≡ Ok (lexeme (Word k) (suc (length w))) →
        Reach (Word k) (46 ∷ w) after
    go (Some n) e h =
        let size : n + 1 ≡ suc (length w) = ap (λ l. l.length) (ok_same _ _ h) in
        reach_directive k w after word (whole-front IsId (id-front w n e) (omega arith))
    go None e h = elim (cases_Bool (first_is 46 w && first_is 46 (drop 1 w))) [
      | inl t ↦
          let same : lexeme (Word ELLIPSIS) 3 ≡ lexeme (Word k) (suc (length w)) =
          ok_same _ _ (sym (cond-true (first_is 46 w && first_is 46 (drop 1 w)) _ _ t) ∙ h) in
          let kinds : Word ELLIPSIS ≡ Word k = ap (λ l. l.kind) same in
          dots t (cc) (ap (λ l. l.length) same)
      | inr t ↦
          (let bad : ◌≡◌ {A = Found} (Err 5) (Ok (lexeme (Word k) (suc (length w)))) =
          sym (cond-false (first_is 46 w && first_is 46 (drop 1 w)) _ _ t) ∙ h in cc)
    ]

-- marks that may be doubled, and those of one byte
reach_doubled : (b one two k : ℕ) (w after : List ℕ) → ((bs : List ℕ) → token_at (b ∷ bs) ≡ doubled_token b one two (b ∷ bs)) →
    (ends_word (b ∷ []) after ≡ true → first_is b after ≡ false) → IsWord k (b ∷ w) → Reach (Word k) (b ∷ w) after
reach_doubled b one two k w after at stops word = go (first_is b w) refl (sym (at w) ∙ alone k (b ∷ w) word)
  where
    on : (t : Bool) → first_is b after ≡ t → Reach (Word one) (b ∷ []) after
    on true e =
        longer_there one b after (lexeme (Word two) 2) (at after ∙ cond-true (first_is b after) _ _ e) (omega arith)
        (λ h. true≢false (sym e ∙ stops h))
    on false e = exactly one (b ∷ []) after (at after ∙ cond-false (first_is b after) _ _ e)

    both : ◌≡◌ {A = Found} (token (Word two) 2) (Ok (lexeme (Word k) (suc (length w)))) → first_is b w ≡ true → Reach (Word k) (b ∷ w) after
    both h e =
        let same : lexeme (Word two) 2 ≡ lexeme (Word k) (suc (length w)) = ok_same _ _ h in
        let kinds : Word two ≡ Word k = ap (λ l. l.kind) same in
        let number : two ≡ k = cc in
        let size : 2 ≡ suc (length w) = ap (λ l. l.length) same in
        let next = first-is-cons b w e in
        let l1 : length w ≡ suc (length next.0) = ap length next.1 in
        let none : next.0 ≡ [] = no-bytes next.0 (omega arith) in
        subst (λ x. Reach (Word k) (b ∷ x) after) (sym (next.1 ∙ ap (λ x. b ∷ x) none))
        (subst (λ i. Reach (Word i) (b ∷ b ∷ []) after) number
        (exactly two (b ∷ b ∷ []) after (at (b ∷ after) ∙ cond-true (nat_eq b b) _ _ (eq-self b))))

    go : (t : Bool) → first_is b w ≡ t → cond t (token (Word two) 2) (token (Word one) 1) ≡ Ok (lexeme (Word k) (suc (length w))) →
        Reach (Word k) (b ∷ w) after
    go true e h = both h e
    go false e h = single k one b w after (one_byte one k w h) (on (first_is b after) refl)

colon_at : (bs : List ℕ) → token_at (58 ∷ bs) ≡ doubled_token 58 COLON DOUBLE_COLON (58 ∷ bs)
unfolding token_at
colon_at bs = refl

bang_at : (bs : List ℕ) → token_at (33 ∷ bs) ≡ doubled_token 33 BANG DOUBLE_BANG (33 ∷ bs)
unfolding token_at
bang_at bs = refl

-- words of any form
digits_no_word : (k n b : ℕ) (w : List ℕ) → is_digit b ≡ true → token_at (b ∷ w) ≡ Ok (lexeme (Word k) n) → ⊥
unfolding digits_token
digits_no_word k n b w h e = no_word (int_length (b ∷ w)) Int 0 4 k n refl (sym (at-digit b w h) ∙ e)

quote_no_word : (k n : ℕ) (w : List ℕ) → token_at (39 ∷ w) ≡ Ok (lexeme (Word k) n) → ⊥
unfolding token_at quoted_name_token
quote_no_word k n w e = no_word (name_length (39 ∷ w)) Name 0 (quote_fault 39 w) k n refl e

string_no_word : (k n : ℕ) (w : List ℕ) → token_at (34 ∷ w) ≡ Ok (lexeme (Word k) n) → ⊥
unfolding token_at string_token
string_no_word k n w e = no_word (quoted_length 34 w) QString 1 (quote_fault 34 w) k n refl e

hash_no_word : (k n : ℕ) (w : List ℕ) → token_at (35 ∷ w) ≡ Ok (lexeme (Word k) n) → ⊥
unfolding token_at hash_token
hash_no_word k n w e = no_word (id_length w) Hash 1 5 k n refl e

empty_no_word : (k : ℕ) → IsWord k [] → ⊥
unfolding token_at
empty_no_word k word = (let bad : ◌≡◌ {A = Found} (Err 5) (Ok (lexeme (Word k) 0)) = alone k [] word in cc)

reach_word : (k : ℕ) (w after : List ℕ) → IsWord k w → Bars (Word k) w after → Reach (Word k) w after
reach_word k [] after word bars = absurd (empty_no_word k word)
reach_word k (b ∷ w) after word bars = go (first-byte b)
  where
    at : (c : ℕ) → b ≡ c → (IsWord k (c ∷ w) → Reach (Word k) (c ∷ w) after) → Reach (Word k) (b ∷ w) after
    at c e r = subst (λ x. Reach (Word k) (x ∷ w) after) (sym e) (r (subst (λ x. IsWord k (x ∷ w)) e word))

    here : (c : ℕ) → b ≡ c → token_at (c ∷ w) ≡ Ok (lexeme (Word k) (suc (length w)))
    here c e = alone k (c ∷ w) (subst (λ x. IsWord k (x ∷ w)) e word)

    go : FirstByte b → Reach (Word k) (b ∷ w) after
    go (FirstByte.id e) = reach-letters k b w after e word
    go (FirstByte.digit e) = absurd (digits_no_word k (suc (length w)) b w e (here b refl))
    go (FirstByte.quote e) = absurd (quote_no_word k (suc (length w)) w (here 39 e))
    go (FirstByte.string e) = absurd (string_no_word k (suc (length w)) w (here 34 e))
    go (FirstByte.dot e) = at 46 e (reach_dot k w after)
    go (FirstByte.hash e) = absurd (hash_no_word k (suc (length w)) w (here 35 e))
    go (FirstByte.bracket e) = at 91 e (reach_bracket k w after)
    go (FirstByte.minus e) = at 45 e (reach_minus k w after)
    go (FirstByte.equals e) = at 61 e (reach_equals k w after)
    go (FirstByte.paren e) = at 40 e (reach_paren k w after)
    go (FirstByte.slash e) =
        at 47 e (λ x. reach_slash k w after x (λ s. bars (ap (λ y. y ∷ w) e ∙ s)))
    go (FirstByte.colon e) =
        at 58 e (reach_doubled 58 COLON DOUBLE_COLON k w after colon_at (λ h. not-true (first_is 58 after) h))
    go (FirstByte.bang e) =
        at 33 e (reach_doubled 33 BANG DOUBLE_BANG k w after bang_at (λ h. not-true (first_is 33 after) h))
    go (FirstByte.mark m) =
        let h : mark_token b ≡ Ok (lexeme (Word k) (suc (length w))) = sym (at-mark b w m) ∙ alone k (b ∷ w) word in
        let f = mark-found b (lexeme (Word k) (suc (length w))) h in
        exactly k (b ∷ w) after (at-mark b (w ++ after) m ∙ h)

-- any kind
pub reach : (kind : TokenKind) (w after : List ℕ) → IsSpelling kind w → Bars kind w after → Reach kind w after
reach Name w after h bars = R.reach-name w after h
reach Scope w after (name, h, is) bars = R.reach-scope w after name h is
reach Int w after h bars = R.reach-int w after h bars
reach QString w after (text, h, is) bars = R.reach-string w after text h is
reach EqBytes w after (bytes, h, is) bars = R.reach-equals w after bytes h is
reach ByteArray w after (bytes, h, is) bars = R.reach-bytearray w after bytes h is
reach RealBytes w after (inl h) bars = R.reach-real 4 w after h refl
reach RealBytes w after (inr h) bars = R.reach-real 8 w after h refl
reach Hash w after (id, h, is) bars = R.reach-hash w after id h is
reach Unused w after (id, h, is) bars = R.reach-unused w after id h is
reach (Word k) w after h bars = reach_word k w after h bars

-- no spelling is empty
long_by : (b : ℕ) (w rest : List ℕ) → w ≡ b ∷ rest → 0 < length w
long_by b w rest e = (let l : length w ≡ suc (length rest) = ap length e in omega arith)

decimal_some : (w : List ℕ) → IsDecimal w → 0 < length w
decimal_some [] h = absurd h
decimal_some (b ∷ w) h = omega arith

word_some : (k : ℕ) (w : List ℕ) → IsWord k w → 0 < length w
word_some k [] h = absurd (empty_no_word k h)
word_some k (b ∷ w) h = omega arith

pub spelling-some : (kind : TokenKind) (w : List ℕ) → IsSpelling kind w → 0 < length w
spelling-some Name w h = name-some h
spelling-some Scope w (name, h, is) = long_by 91 w (name ++ 93 ∷ []) is
spelling-some Int w (inl (inl d)) = decimal_some w d
spelling-some Int w (inl (inr (ds, d, is))) = long_by 45 w ds is
spelling-some Int w (inr (inl (ds, h, is))) = long_by 48 w (120 ∷ ds) is
spelling-some Int w (inr (inr (ds, h, is))) = long_by 45 w ds is
spelling-some QString w (text, h, is) = long_by 34 w (text ++ 34 ∷ []) is
spelling-some EqBytes w (bytes, h, is) = long_by 61 w bytes is
spelling-some ByteArray w (bytes, h, is) = long_by 98 w (drop 1 (codes "bytearray") ++ bytes) is
spelling-some RealBytes w (inl h) = long_by 40 w (h.lead ++ (h.pairs ++ 41 ∷ [])) h.is
spelling-some RealBytes w (inr h) = long_by 40 w (h.lead ++ (h.pairs ++ 41 ∷ [])) h.is
spelling-some Hash w (id, h, is) = long_by 35 w id is
spelling-some Unused w (id, h, is) = long_by 46 w id is
spelling-some (Word k) w h = word_some k w h
