-- The token at a place is the longest spelling there; where there is none, why.
use Rattle.std.proofs.Common.{◌≡◌, ℕ, ◌+◌, ◌≤◌, Bool, true, false, not, cond, ◌&&◌, ◌||◌, nat_eq, ◌⊎◌, inl, inr, List, [], ◌∷◌, ◌++◌, length, take, drop, Option, None, Some, Ok, Err, refl, ap, sym, subst, ◌∙◌, arith, length-append, length-take-le, take-append-drop, take_at, true≢false}
use Rattle.std.proofs.lemmas.Bool.{cases_Bool, cond-true, cond-false, eqb-true, false≢true}
use Rattle.il_lexer.specs.declared.pairs.Pairs.{Pairs}
use Rattle.il_lexer.specs.declared.types.Lexeme.{Lexeme}
use Rattle.il_lexer.specs.declared.types.TokenKind.{TokenKind}
use Rattle.il_lexer.specs.declared.types.TokenKind.TheVariants.{Name, Scope, Int, QString, EqBytes, RealBytes, Hash, Word}
use Rattle.il_lexer.specs.declared.word.TheConstants.{
  BANG,
  DOUBLE_BANG,
  AMPERSAND,
  OPEN_PAREN,
  CLOSE_PAREN,
  STAR,
  PLUS,
  COMMA,
  MINUS,
  ELLIPSIS,
  SLASH,
  COLON,
  DOUBLE_COLON,
  LESS,
  EQUALS,
  GREATER,
  OPEN_BRACKET,
  CLOSE_BRACKET,
  OPEN_BRACE,
  CLOSE_BRACE,
}
use Rattle.il_lexer.specs.Classes.{is_digit, is_id_start, is_id_part, first_passes, first_is}
use Rattle.il_lexer.specs.Quotes.{quoted_length, quote_fault, ends as quote_ends}
use Rattle.il_lexer.specs.Spellings.{is_barred, id_length, name_length, int_length, pairs_in, bytes_length}
use Rattle.il_lexer.specs.WordList.{word_number}
use Rattle.il_lexer.specs.Tokens.{Found, lexeme, token, token_or, word_or, named_or, id_token, quoted_name_token, string_token, digits_token, minus_token, directive_or, dot_token, hash_token, scope_or, bracket_token, equals_token, real_or, paren_token, slash_token, doubled_token, mark_token, token_at}
use Rattle.il_lexer.specs.Spelled.{IsSpelling}
use Rattle.il_lexer.specs.Longest.{Stands, Wins, IsLongest, NoneStands, is_quote, Breaks, LongestSpelling, ends_integer, ends_word, ends, IsOwn, LongestWhereItEnds}
use Rattle.il_lexer.proofs.Fronts.{front-rest, front-taken, differ}
use Rattle.il_lexer.proofs.Marks as M
use Rattle.il_lexer.proofs.FirstBytes.{FirstByte, first-byte, start-no-digit, at-id, at-digit, at-mark}
use Rattle.il_lexer.proofs.FoundTokens.{SpelledAt, found-spelled}
use Rattle.il_lexer.proofs.Reached.{Reach, Bars, bars-free}
use Rattle.il_lexer.proofs.ReachedMarks.{reach}
use Rattle.il_lexer.proofs.AnyTexts.{IsQuoteByte, closes-found, closes-ends}

ok_same : (a b : Lexeme) → ◌≡◌ {A = Found} (Ok a) (Ok b) → a ≡ b
ok_same a b h = cc

stands_reach : (kind : TokenKind) (w after : List ℕ) → Stands kind w after → Reach kind w after
stands_reach kind w after s = reach kind w after s.spelled (bars-free kind w after s.free)

is_longest : (rest : List ℕ) (l : Lexeme) → token_at rest ≡ Ok l → IsLongest rest l
is_longest rest l h =
    let s : SpelledAt rest l = found-spelled rest l h in
    let l1 : length s.front.word ≡ l.length = s.front.long in
    let l2 : length rest ≡ length s.front.word + length s.front.after = ap length s.front.whole ∙ length-append s.front.word s.front.after in
    let within : l.length ≤ length rest = omega arith in
    let long : length (take l.length rest) ≡ l.length = length-take-le l.length rest within in
    let here : Stands l.kind s.front.word s.front.after = record { spelled = s.front.holds; free = s.free } in
    record {
      within = within;
      stands = subst (λ x. Stands l.kind (take l.length rest) x) (sym (front-rest s.front))
          (subst (λ x. Stands l.kind x s.front.after) (sym (front-taken s.front)) here);
      longest = λ kind w after e st.
          let r : Reach kind w after = stands_reach kind w after st in
          let same : r.found ≡ l = ok_same r.found l (sym r.is ∙ ap token_at e ∙ h) in
          let size : r.found.length ≡ l.length = ap (λ x. x.length) same in
          let low : length w ≤ r.found.length = r.long in
          omega arith;
      first = λ kind st.
          let r : Reach kind (take l.length rest) (drop l.length rest) = stands_reach kind (take l.length rest) (drop l.length rest) st in
          let same : r.found ≡ l = ok_same r.found l (sym r.is ∙ ap token_at (take-append-drop l.length rest) ∙ h) in
          subst (λ x. Wins x.kind kind) same (r.wins (ap (λ x. x.length) same ∙ sym long));
    }

none_stands : (rest : List ℕ) (rule : ℕ) → token_at rest ≡ Err rule → NoneStands rest
none_stands rest rule h kind w after e st =
    let r : Reach kind w after = stands_reach kind w after st in
    let bad : ◌≡◌ {A = Found} (Ok r.found) (Err rule) = sym r.is ∙ ap token_at e ∙ h in
    cc

-- two longest spellings are one
same_kind : (a b : TokenKind) → Wins a b → Wins b a → a ≡ b
same_kind a b (inl e) y = e
same_kind a b (inr x) (inl e) = sym e
same_kind a b (inr x) (inr y) = absurd (true≢false (sym x.0 ∙ y.1))

only_one : (rest : List ℕ) (l m : Lexeme) → IsLongest rest l → IsLongest rest m → l ≡ m
only_one rest l m a b =
    let in_l : l.length ≤ length rest = a.within in
    let in_m : m.length ≤ length rest = b.within in
    let long_l : length (take l.length rest) ≡ l.length = length-take-le l.length rest in_l in
    let long_m : length (take m.length rest) ≡ m.length = length-take-le m.length rest in_m in
    let up : length (take l.length rest) ≤ m.length =
    b.longest l.kind (take l.length rest) (drop l.length rest) (take-append-drop l.length rest) a.stands in
    let down : length (take m.length rest) ≤ l.length =
    a.longest m.kind (take m.length rest) (drop m.length rest) (take-append-drop m.length rest) b.stands in
    let size : l.length ≡ m.length = omega arith in
    let left : Wins l.kind m.kind =
    a.first m.kind (subst (λ n. Stands m.kind (take n rest) (drop n rest)) (sym size) b.stands) in
    let right : Wins m.kind l.kind =
    b.first l.kind (subst (λ n. Stands l.kind (take n rest) (drop n rest)) size a.stands) in
    ap (λ k. lexeme k l.length) (same_kind l.kind m.kind left right) ∙ ap (lexeme m.kind) size

only_found : (rest : List ℕ) (l : Lexeme) → IsLongest rest l → (found : Found) → token_at rest ≡ found → token_at rest ≡ Ok l
only_found rest l a (Ok m) h = h ∙ ap Ok (sym (only_one rest l m a (is_longest rest m h)))
only_found rest l a (Err rule) h =
    absurd (none_stands rest rule h l.kind (take l.length rest) (drop l.length rest) (take-append-drop l.length rest) a.stands)

-- why no token begins
err_same : (a b : ℕ) → ◌≡◌ {A = Found} (Err a) (Err b) → b ≡ a
err_same a b h = cc

or_err : (o : Option ℕ) (kind : TokenKind) (more e rule : ℕ) → token_or o kind more (Err e) ≡ Err rule → rule ≡ e
or_err None kind more e rule h = err_same e rule h
or_err (Some n) kind more e rule h = cc

or_never : (o : Option ℕ) (kind : TokenKind) (more k rule : ℕ) → token_or o kind more (token (Word k) 1) ≡ Err rule → ⊥
or_never None kind more k rule h = cc
or_never (Some n) kind more k rule h = cc

quote_rule : (q rule : ℕ) (bs : List ℕ) → (q ≡ 34) ⊎ (q ≡ 39) → IsQuoteByte q → is_quote q ≡ true → rule ≡ quote_fault q bs →
    Breaks (q ∷ bs) rule
quote_rule q rule bs kind ok quote e = elim (cases_Bool (quote_ends q bs)) [
  | inl t ↦ Breaks.text (e ∙ cond-true (quote_ends q bs) _ _ t) (closes-found q bs kind t)
  | inr t ↦ Breaks.quote (e ∙ cond-false (quote_ends q bs) _ _ t) quote (λ c. true≢false (sym (closes-ends q bs ok c) ∙ t))
]

-- rule L5 at a byte that begins no quote, no comment and no number
at_other : (b : ℕ) (bs : List ℕ) (rule : ℕ) → rule ≡ 5 → is_quote b ≡ false → nat_eq b 47 ≡ false → is_digit b ≡ false → Breaks (b ∷ bs) rule
at_other b bs rule e q s d = Breaks.other e q (ap (λ t. t && first_is 42 bs) s) d

id_fault : (b : ℕ) (bs : List ℕ) (rule : ℕ) → token_at (b ∷ bs) ≡ Err rule → is_id_start b ≡ true → rule ≡ 5
unfolding id_token
id_fault b bs rule h start = go (name_length (b ∷ bs)) (sym (at-id b bs start) ∙ h)
  where
    go : (o : Option ℕ) → named_or (b ∷ bs) o (Err 5) ≡ Err rule → rule ≡ 5
    go None h = err_same 5 rule h
    go (Some n) h = cc

digit_fault : (b : ℕ) (bs : List ℕ) (rule : ℕ) → token_at (b ∷ bs) ≡ Err rule → is_digit b ≡ true → rule ≡ 4
unfolding digits_token
digit_fault b bs rule h d = or_err (int_length (b ∷ bs)) Int 0 4 rule (sym (at-digit b bs d) ∙ h)

dot_fault : (bs : List ℕ) (rule : ℕ) → token_at (46 ∷ bs) ≡ Err rule → rule ≡ 5
unfolding token_at dot_token
dot_fault bs rule h = go (id_length bs) h
  where
    dots : (t : Bool) → cond t (token (Word ELLIPSIS) 3) (Err 5) ≡ Err rule → rule ≡ 5
    dots true h = cc
    dots false h = err_same 5 rule h

    go : (o : Option ℕ) → directive_or (46 ∷ bs) o (cond (first_is 46 bs && first_is 46 (drop 1 bs)) (token (Word ELLIPSIS) 3) (Err 5)) ≡ Err rule →
        rule ≡ 5
    go None h = dots (first_is 46 bs && first_is 46 (drop 1 bs)) h
    go (Some n) h = cc

hash_fault : (bs : List ℕ) (rule : ℕ) → token_at (35 ∷ bs) ≡ Err rule → rule ≡ 5
unfolding token_at hash_token
hash_fault bs rule h = or_err (id_length bs) Hash 1 5 rule h

bracket_never : (bs : List ℕ) (rule : ℕ) → token_at (91 ∷ bs) ≡ Err rule → ⊥
unfolding token_at bracket_token
bracket_never bs rule h = go (name_length bs) h
  where
    on : (t : Bool) (l : Lexeme) → ◌≡◌ {A = Found} (cond t (Ok l) (token (Word OPEN_BRACKET) 1)) (Err rule) → ⊥
    on true l h = cc
    on false l h = cc

    go : (o : Option ℕ) → scope_or (91 ∷ bs) o (token (Word OPEN_BRACKET) 1) ≡ Err rule → ⊥
    go None h = cc
    go (Some n) h =
        on (first_is 93 (drop (n + 1) (91 ∷ bs))) (lexeme (word_or (word_number (take (n + 2) (91 ∷ bs))) Scope) (n + 2)) h

minus_never : (bs : List ℕ) (rule : ℕ) → token_at (45 ∷ bs) ≡ Err rule → ⊥
unfolding token_at minus_token
minus_never bs rule h = or_never (int_length bs) Int 1 MINUS rule h

equals_never : (bs : List ℕ) (rule : ℕ) → token_at (61 ∷ bs) ≡ Err rule → ⊥
unfolding token_at equals_token
equals_never bs rule h = or_never (bytes_length bs) EqBytes 1 EQUALS rule h

paren_never : (bs : List ℕ) (rule : ℕ) → token_at (40 ∷ bs) ≡ Err rule → ⊥
unfolding token_at paren_token
paren_never bs rule h = go (pairs_in bs) h
  where
    on : (t : Bool) (n : ℕ) → cond t (token RealBytes n) (token (Word OPEN_PAREN) 1) ≡ Err rule → ⊥
    on true n h = cc
    on false n h = cc

    go : (o : Option Pairs) → real_or o (token (Word OPEN_PAREN) 1) ≡ Err rule → ⊥
    go None h = cc
    go (Some p) h = on (nat_eq p.count 4 || nat_eq p.count 8) (p.bytes + 1) h

slash_fault : (bs : List ℕ) (rule : ℕ) → token_at (47 ∷ bs) ≡ Err rule → Breaks (47 ∷ bs) rule
unfolding token_at slash_token
slash_fault bs rule h = go (first_is 42 bs) refl h
  where
    go : (t : Bool) → first_is 42 bs ≡ t → cond t (Err 2) (token (Word SLASH) 1) ≡ Err rule → Breaks (47 ∷ bs) rule
    go true e h = Breaks.comment (err_same 2 rule h) e
    go false e h = cc

doubled_never : (b one two rule : ℕ) (bs : List ℕ) → doubled_token b one two (b ∷ bs) ≡ Err rule → ⊥
doubled_never b one two rule bs h = go (first_is b bs) h
  where
    go : (t : Bool) → cond t (token (Word two) 2) (token (Word one) 1) ≡ Err rule → ⊥
    go true h = cc
    go false h = cc

colon_never : (bs : List ℕ) (rule : ℕ) → token_at (58 ∷ bs) ≡ Err rule → ⊥
unfolding token_at
colon_never bs rule h = doubled_never 58 COLON DOUBLE_COLON rule bs h

bang_never : (bs : List ℕ) (rule : ℕ) → token_at (33 ∷ bs) ≡ Err rule → ⊥
unfolding token_at
bang_never bs rule h = doubled_never 33 BANG DOUBLE_BANG rule bs h

mark_fault : (b rule : ℕ) → mark_token b ≡ Err rule → rule ≡ 5
unfolding mark_token
mark_fault b rule h = one 123 OPEN_BRACE _ h (λ h. one 125 CLOSE_BRACE _ h (λ h. one 41 CLOSE_PAREN _ h (λ h. one 93 CLOSE_BRACKET _ h
    (λ h. one 60 LESS _ h (λ h. one 62 GREATER _ h (λ h. one 44 COMMA _ h (λ h. one 43 PLUS _ h (λ h. one 38 AMPERSAND _ h
    (λ h. one 42 STAR _ h (λ h. err_same 5 rule h))))))))))
  where
    one : (c k : ℕ) (other : Found) → cond (nat_eq b c) (token (Word k) 1) other ≡ Err rule → (other ≡ Err rule → rule ≡ 5) → rule ≡ 5
    one c k other h more = elim (cases_Bool (nat_eq b c)) [
      | inl t ↦ (let bad : ◌≡◌ {A = Found} (token (Word k) 1) (Err rule) = sym (cond-true (nat_eq b c) _ _ t) ∙ h in cc)
      | inr t ↦ more (sym (cond-false (nat_eq b c) _ _ t) ∙ h)
    ]

quote_fault_at : (bs : List ℕ) (rule : ℕ) → token_at (39 ∷ bs) ≡ Err rule → rule ≡ quote_fault 39 bs
unfolding token_at quoted_name_token
quote_fault_at bs rule h = or_err (name_length (39 ∷ bs)) Name 0 (quote_fault 39 bs) rule h

string_fault_at : (bs : List ℕ) (rule : ℕ) → token_at (34 ∷ bs) ≡ Err rule → rule ≡ quote_fault 34 bs
unfolding token_at string_token
string_fault_at bs rule h = or_err (quoted_length 34 bs) QString 1 (quote_fault 34 bs) rule h

none_there : (rule : ℕ) → token_at [] ≡ Err rule → rule ≡ 5
unfolding token_at
none_there rule h = err_same 5 rule h

or2_false : (x y : Bool) → x ≡ false → y ≡ false → (x || y) ≡ false
or2_false true y a b = absurd (true≢false a)
or2_false false y a b = b

breaks : (rest : List ℕ) (rule : ℕ) → token_at rest ≡ Err rule → Breaks rest rule
breaks [] rule h = Breaks.other (none_there rule h) refl refl refl
breaks (b ∷ bs) rule h = go (first-byte b)
  where
    at : (c : ℕ) → b ≡ c → (token_at (c ∷ bs) ≡ Err rule → Breaks (c ∷ bs) rule) → Breaks (b ∷ bs) rule
    at c e f = subst (λ x. Breaks (x ∷ bs) rule) (sym e) (f (subst (λ x. token_at (x ∷ bs) ≡ Err rule) e h))

    go : FirstByte b → Breaks (b ∷ bs) rule
    go (FirstByte.id e) =
        at_other b bs rule (id_fault b bs rule h e)
        (or2_false (nat_eq b 34) (nat_eq b 39) (differ is_id_start b 34 e refl) (differ is_id_start b 39 e refl))
        (differ is_id_start b 47 e refl) (start-no-digit b e)
    go (FirstByte.digit e) = Breaks.digits (digit_fault b bs rule h e) e
    go (FirstByte.quote e) =
        at 39 e (λ x. quote_rule 39 rule bs (inr refl) (record { slash = refl; line = refl }) refl (quote_fault_at bs rule x))
    go (FirstByte.string e) =
        at 34 e (λ x. quote_rule 34 rule bs (inl refl) (record { slash = refl; line = refl }) refl (string_fault_at bs rule x))
    go (FirstByte.dot e) = at 46 e (λ x. at_other 46 bs rule (dot_fault bs rule x) refl refl refl)
    go (FirstByte.hash e) = at 35 e (λ x. at_other 35 bs rule (hash_fault bs rule x) refl refl refl)
    go (FirstByte.bracket e) = at 91 e (λ x. absurd (bracket_never bs rule x))
    go (FirstByte.minus e) = at 45 e (λ x. absurd (minus_never bs rule x))
    go (FirstByte.equals e) = at 61 e (λ x. absurd (equals_never bs rule x))
    go (FirstByte.paren e) = at 40 e (λ x. absurd (paren_never bs rule x))
    go (FirstByte.slash e) = at 47 e (slash_fault bs rule)
    go (FirstByte.colon e) = at 58 e (λ x. absurd (colon_never bs rule x))
    go (FirstByte.bang e) = at 33 e (λ x. absurd (bang_never bs rule x))
    go (FirstByte.mark m) =
        at_other b bs rule (mark_fault b rule (sym (at-mark b bs m) ∙ h))
        (or2_false (nat_eq b 34) (nat_eq b 39) m.string m.quote) m.slash m.digit

pub longest-spelling : LongestSpelling
longest-spelling = record {
  token = is_longest;
  only = λ rest l a. only_found rest l a (token_at rest) refl;
  fault = λ rest rule h. (none_stands rest rule h, breaks rest rule h);
}

-- where a printed spelling ends
integer_parts : (x y : Bool) → not (x || y) ≡ true → (x ≡ false) × (y ≡ false)
integer_parts true y h = absurd (false≢true h)
integer_parts false true h = absurd (false≢true h)
integer_parts false false h = (refl, refl)

integer_free : (after : List ℕ) → ends_integer after ≡ true → (first_passes is_digit after ≡ false) × (is_barred after ≡ false)
integer_free [] h = (refl, refl)
integer_free (b ∷ after) h =
    let parts = integer_parts (is_id_part b) (nat_eq b 46 && not (first_is 46 after)) h in
    (second (is_id_start b) (is_digit b) parts.0, bar parts.0 (nat_eq b 46) refl parts.1)
  where
    second : (x y : Bool) → (x || y) ≡ false → y ≡ false
    second true y h = absurd (true≢false h)
    second false y h = h

    apart : (c : ℕ) → is_id_part b ≡ false → is_id_part c ≡ true → nat_eq b c ≡ false
    apart c hb hc = go (nat_eq b c) refl
      where
        go : (t : Bool) → nat_eq b c ≡ t → t ≡ false
        go false e = refl
        go true e = absurd (true≢false (sym hc ∙ sym (ap is_id_part (eqb-true b c e)) ∙ hb))

    exponent : (x y z : Bool) → x ≡ false → y ≡ false → ((x || y) && z) ≡ false
    exponent true y z a c = absurd (true≢false a)
    exponent false true z a c = absurd (true≢false c)
    exponent false false z a c = refl

    bar : is_id_part b ≡ false → (t : Bool) → nat_eq b 46 ≡ t → (t && not (first_is 46 after)) ≡ false → is_barred (b ∷ after) ≡ false
    bar hb true e h = cond-true (nat_eq b 46) _ _ e ∙ h
    bar hb false e h = cond-false (nat_eq b 46) _ _ e ∙ exponent (nat_eq b 101) (nat_eq b 69) _ (apart 101 hb refl) (apart 69 hb refl)

ends_bars : (kind : TokenKind) (w after : List ℕ) → ends kind w after ≡ true → Bars kind w after
ends_bars Int w after h = λ d. integer_free after h
ends_bars (Word k) w after h =
    λ e. (integer_parts (first_is 42 after) (first_is 47 after) (sym (ap (λ x. ends_word x after) e) ∙ h)).0
ends_bars _ w after h = tt

own_kind : (k kind : TokenKind) (w : List ℕ) → Wins k kind → IsOwn kind w → IsSpelling k w → k ≡ kind
own_kind k kind w (inl e) own s = e
own_kind k kind w (inr x) (inl own) s = absurd (true≢false (sym own ∙ x.1))
own_kind (Word j) kind w (inr x) (inr own) s = (let bad : None ≡ Some j = sym own ∙ M.word-number w j s in cc)
own_kind _ kind w (inr x) (inr own) s = absurd (false≢true x.0)

pub longest-where-it-ends : LongestWhereItEnds
longest-where-it-ends kind w after spelled own end =
    let r : Reach kind w after = reach kind w after spelled (ends_bars kind w after end) in
    let size : r.found.length ≡ length w = r.stops own end in
    let s : SpelledAt (w ++ after) r.found = found-spelled (w ++ after) r.found r.is in
    let taken : s.front.word ≡ w = sym (front-taken s.front) ∙ take_at w after r.found.length (sym size) in
    let same : r.found.kind ≡ kind =
    own_kind r.found.kind kind w (r.wins size) own (subst (IsSpelling r.found.kind) taken s.front.holds) in
    r.is ∙ ap (λ k. Ok (lexeme k r.found.length)) same ∙ ap (λ n. Ok (lexeme kind n)) size
