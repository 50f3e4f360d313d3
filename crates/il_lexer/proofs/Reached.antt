-- Where a spelling stands, no shorter token is found: names, integers, texts and bytes.
use Rattle.std.proofs.Common.{◌≡◌, ℕ, suc, ◌+◌, ◌≤◌, Bool, true, false, not, cond, ◌&&◌, ◌||◌, nat_eq, ◌⊎◌, inl, inr, List, [], ◌∷◌, ◌++◌, length, take, drop, codes, Option, None, Some, Ok, Err, refl, ap, sym, subst, ◌∙◌, arith, length-append, append_assoc, take_at, drop_at}
use Rattle.std.proofs.lemmas.Bool.{cond-true, cond-false, false≢true, false_from_ne_true}
use Rattle.std.specs.Bool.{⊤}
use Rattle.il_lexer.specs.declared.types.Lexeme.{Lexeme}
use Rattle.il_lexer.specs.declared.types.TokenKind.{TokenKind}
use Rattle.il_lexer.specs.declared.types.TokenKind.TheVariants.{Name, Scope, Int, QString, EqBytes, ByteArray, RealBytes, Hash, Unused, Word}
use Rattle.il_lexer.specs.declared.word.TheConstants.{MINUS, EQUALS, OPEN_PAREN, OPEN_BRACKET, ELLIPSIS, BYTEARRAY}
use Rattle.il_lexer.specs.Classes.{is_digit, is_id_start, is_id_part, first_passes, first_is}
use Rattle.il_lexer.specs.Runs.{front}
use Rattle.il_lexer.specs.Gaps.{gap, gap_piece}
use Rattle.il_lexer.specs.Quotes.{quote_fault}
use Rattle.il_lexer.specs.Spellings.{is_barred, dotted_part, bytes_length}
use Rattle.il_lexer.specs.WordList.{word_number}
use Rattle.il_lexer.specs.Tokens.{lexeme, token, token_or, word_or, bytearray_token, named, named_or, id_token, quoted_name_token, string_token, digits_token, minus_token, directive_or, dot_token, hash_token, scope_or, bracket_token, equals_token, real_or, paren_token, token_at}
use Rattle.il_lexer.specs.Spelled.{IsId, IsText, IsPart, IsName, IsBytes, HasBytes, IsDecimal, Signed, IsSpelling}
use Rattle.il_lexer.specs.Longest.{IsFree, is_word, Wins, IsOwn, ends_name, ends_integer, ends}
use Rattle.il_lexer.proofs.RunLemmas.{run-none}
use Rattle.il_lexer.proofs.Fronts.{first-cons, front-stops, differ, not-true}
use Rattle.il_lexer.proofs.SpelledTexts.{quoted-exact}
use Rattle.il_lexer.proofs.SpelledGaps.{no-gap}
use Rattle.il_lexer.proofs.SpelledBytes.{bytes-in-exact, bytes-exact}
use Rattle.il_lexer.proofs.SpelledNames.{id-exact, NameAt, name-exact, IntAt, decimal-exact, hexadecimal-exact}
use Rattle.il_lexer.proofs.Marks as M
use Rattle.il_lexer.proofs.FirstBytes.{at-id, at-digit}
use Rattle.il_lexer.proofs.Named.{named-long, named-same, named-ends, named-bytes}

-- what is found where a spelling stands
pub record Reach (kind : TokenKind) (w after : List ℕ) : Type 0 where
  pub found : Lexeme
  pub is : token_at (w ++ after) ≡ Ok found
  pub long : length w ≤ found.length
  pub wins : found.length ≡ length w → Wins found.kind kind
  pub stops : IsOwn kind w → ends kind w after ≡ true → found.length ≡ length w

-- what bars a spelling of the kind
abbrev pub Bars : TokenKind → List ℕ → List ℕ → Type 0
Bars Int w after = Signed IsDecimal w → (first_passes is_digit after ≡ false) × (is_barred after ≡ false)
Bars (Word k) w after = w ≡ 47 ∷ [] → first_is 42 after ≡ false
Bars _ w after = ⊤

pub bars-free : (kind : TokenKind) (w after : List ℕ) → IsFree w after → Bars kind w after
bars-free Int w after f = f.digits
bars-free (Word k) w after f = f.slash
bars-free _ w after f = tt

not3 : (x y z : Bool) → not (x || y || z) ≡ true → (x ≡ false) × (y ≡ false) × (z ≡ false)
not3 true y z h = absurd (false≢true h)
not3 false true z h = absurd (false≢true h)
not3 false false true h = absurd (false≢true h)
not3 false false false h = (refl, refl, refl)

pub no-dot : (after : List ℕ) → first_is 46 after ≡ false → dotted_part after ≡ None
no-dot [] h = refl
no-dot (b ∷ after) h = cond-false (nat_eq b 46) _ _ h

pub ends-name-parts : (after : List ℕ) → ends_name after ≡ true →
    (first_passes is_id_part after ≡ false) × (first_is 46 after ≡ false) × (first_is 39 after ≡ false)
ends-name-parts after h = not3 (first_passes is_id_part after) (first_is 46 after) (first_is 39 after) h

word_or_wins : (o : Option ℕ) (other : TokenKind) → is_word other ≡ false → Wins (word_or o other) other
word_or_wins None other h = inl refl
word_or_wins (Some k) other h = inr (refl, h)

-- names
id_first : (w : List ℕ) → IsId w → (b : ℕ) × (rest : List ℕ) × (w ≡ b ∷ rest) × (is_id_start b ≡ true)
id_first [] h = absurd h
id_first (b ∷ rest) h = (b, rest, refl, h.0)

part_first : {w : List ℕ} → IsPart w → (b : ℕ) × (rest : List ℕ) × (w ≡ b ∷ rest) × ((is_id_start b ≡ true) ⊎ (b ≡ 39))
part_first {w} (inl id) = (let f = id_first w id in (f.0, f.1, f.2, inl f.3))
part_first (inr (text, t, some, is)) = (39, text ++ 39 ∷ [], is, inr refl)

name_first : {w : List ℕ} → IsName w → (b : ℕ) × (rest : List ℕ) × (w ≡ b ∷ rest) × ((is_id_start b ≡ true) ⊎ (b ≡ 39))
name_first (IsName.part p) = part_first p
name_first (IsName.dotted {first = first} {rest = rest} p more is) =
    let f = part_first p in (f.0, f.1 ++ 46 ∷ rest, is ∙ ap (λ x. x ++ 46 ∷ rest) f.2, f.3)

-- what is found where a name stands that begins as an identifier does
pub record IdAt (w after : List ℕ) : Type 0 where
  pub size : ℕ
  pub is : token_at (w ++ after) ≡ Ok (named (w ++ after) size)
  pub long : length w ≤ (named (w ++ after) size).length
  pub same : (named (w ++ after) size).length ≡ length w → (named (w ++ after) size).kind ≡ word_or (word_number w) Name
  pub stops : ends_name after ≡ true → (word_number w ≡ Some BYTEARRAY → bytes_length after ≡ None) →
      (named (w ++ after) size).length ≡ length w

pub id-at : (b : ℕ) (w after : List ℕ) → is_id_start b ≡ true → IsName (b ∷ w) → IdAt (b ∷ w) after
unfolding id_token
id-at b w after start name =
    let n : NameAt (b ∷ w) after = name-exact name after in
    let long : n.size ≤ (named (b ∷ (w ++ after)) n.size).length = named-long (b ∷ (w ++ after)) n.size in
    let low : suc (length w) ≤ n.size = n.long in
    record {
      size = n.size;
      is = at-id b (w ++ after) start ∙ ap (λ o. named_or (b ∷ (w ++ after)) o (Err 5)) n.is;
      long = omega arith;
      same = λ e.
          let size : n.size ≡ suc (length w) = (let all : (named (b ∷ (w ++ after)) n.size).length ≡ suc (length w) = e in omega arith) in
          named-same (b ∷ (w ++ after)) n.size (e ∙ sym size)
          ∙ ap (λ x. word_or (word_number x) Name) (take_at (b ∷ w) after n.size (sym size));
      stops = λ e bytes.
          let parts = ends-name-parts after e in
          let size : n.size ≡ suc (length w) = n.stops parts.0 (no-dot after parts.1) in
          let behind : drop n.size (b ∷ (w ++ after)) ≡ after = drop_at (b ∷ w) after n.size (sym size) in
          let taken : take n.size (b ∷ (w ++ after)) ≡ b ∷ w = take_at (b ∷ w) after n.size (sym size) in
          named-ends (b ∷ (w ++ after)) n.size (ap (first_is 46) behind ∙ parts.1)
          (λ k. ap bytes_length behind ∙ bytes (sym (ap word_number taken) ∙ k))
          ∙ size;
    }

own_name : (w : List ℕ) → IsOwn Name w → word_number w ≡ None
own_name w (inl h) = absurd (false≢true h)
own_name w (inr h) = h

reach_quoted : (w after : List ℕ) → IsName (39 ∷ w) → Reach Name (39 ∷ w) after
unfolding token_at quoted_name_token
reach_quoted w after name =
    let n : NameAt (39 ∷ w) after = name-exact name after in
    let low : suc (length w) ≤ n.size = n.long in
    record {
      found = lexeme Name (n.size + 0);
      is = ap (λ o. token_or o Name 0 (Err (quote_fault 39 (w ++ after)))) n.is;
      long = omega arith;
      wins = λ e. inl refl;
      stops = λ own e.
          let parts = ends-name-parts after e in
          let size : n.size ≡ suc (length w) = n.stops parts.0 (no-dot after parts.1) in
          omega arith;
    }

reach_id : (b : ℕ) (w after : List ℕ) → is_id_start b ≡ true → IsName (b ∷ w) → Reach Name (b ∷ w) after
reach_id b w after start name =
    let f : IdAt (b ∷ w) after = id-at b w after start name in
    record {
      found = named (b ∷ (w ++ after)) f.size;
      is = f.is;
      long = f.long;
      wins = λ e. subst (λ k. Wins k Name) (sym (f.same e)) (word_or_wins (word_number (b ∷ w)) Name refl);
      stops = λ own e. f.stops e (λ k. (let bad : None ≡ Some BYTEARRAY = sym (own_name (b ∷ w) own) ∙ k in cc));
    }

pub reach-name : (w after : List ℕ) → IsName w → Reach Name w after
reach-name w after name =
    let f = name_first name in
    let h : IsName (f.0 ∷ f.1) = subst IsName f.2 name in
    subst (λ x. Reach Name x after) (sym f.2) (go f.0 f.1 h f.3)
  where
    go : (b : ℕ) (rest : List ℕ) → IsName (b ∷ rest) → (is_id_start b ≡ true) ⊎ (b ≡ 39) → Reach Name (b ∷ rest) after
    go b rest h (inl start) = reach_id b rest after start h
    go b rest h (inr q) =
        subst (λ x. Reach Name (x ∷ rest) after) (sym q) (reach_quoted rest after (subst (λ x. IsName (x ∷ rest)) q h))

-- a name in brackets
pub scope-found : (name after : List ℕ) → IsName name →
    token_at (91 ∷ (name ++ 93 ∷ after)) ≡ token (word_or (word_number (91 ∷ (name ++ 93 ∷ []))) Scope) (length name + 2)
unfolding token_at bracket_token
scope-found name after h =
    let n : NameAt name (93 ∷ after) = name-exact h (93 ∷ after) in
    let size : n.size ≡ length name = n.stops refl refl in
    let one : n.size + 1 ≡ suc (length name) = omega arith in
    let behind : drop (n.size + 1) (91 ∷ (name ++ 93 ∷ after)) ≡ 93 ∷ after =
    ap (λ m. drop m (91 ∷ (name ++ 93 ∷ after))) one ∙ drop_at name (93 ∷ after) (length name) refl in
    let l1 : length (name ++ 93 ∷ []) ≡ length name + 1 = length-append name (93 ∷ []) in
    let two : length (91 ∷ (name ++ 93 ∷ [])) ≡ n.size + 2 = omega arith in
    let taken : take (n.size + 2) (91 ∷ (name ++ 93 ∷ after)) ≡ 91 ∷ (name ++ 93 ∷ []) =
    ap (λ x. take (n.size + 2) (91 ∷ x)) (sym (append_assoc name (93 ∷ []) after))
    ∙ take_at (91 ∷ (name ++ 93 ∷ [])) after (n.size + 2) two in
    ap (λ o. scope_or (91 ∷ (name ++ 93 ∷ after)) o (token (Word OPEN_BRACKET) 1)) n.is
    ∙ cond-true (first_is 93 (drop (n.size + 1) (91 ∷ (name ++ 93 ∷ after)))) _ _ (ap (first_is 93) behind)
    ∙ ap (λ x. token (word_or (word_number x) Scope) (n.size + 2)) taken
    ∙ ap (λ m. token (word_or (word_number (91 ∷ (name ++ 93 ∷ []))) Scope) (m + 2)) size

pub reach-scope : (w after name : List ℕ) → IsName name → w ≡ 91 ∷ (name ++ 93 ∷ []) → Reach Scope w after
reach-scope w after name h is =
    let l1 : length w ≡ suc (length (name ++ 93 ∷ [])) = ap length is in
    let l2 : length (name ++ 93 ∷ []) ≡ length name + 1 = length-append name (93 ∷ []) in
    record {
      found = lexeme (word_or (word_number (91 ∷ (name ++ 93 ∷ []))) Scope) (length name + 2);
      is = ap (λ x. token_at (x ++ after)) is ∙ ap (λ x. token_at (91 ∷ x)) (append_assoc name (93 ∷ []) after) ∙ scope-found name after h;
      long = omega arith;
      wins = λ e. word_or_wins (word_number (91 ∷ (name ++ 93 ∷ []))) Scope refl;
      stops = λ own e. omega arith;
    }

-- integers
digits_found : (b : ℕ) (w after : List ℕ) → is_digit b ≡ true → (i : IntAt (b ∷ w) after) →
    token_at (b ∷ (w ++ after)) ≡ Ok (lexeme Int (i.size + 0))
unfolding digits_token
digits_found b w after h i = at-digit b (w ++ after) h ∙ ap (λ o. token_or o Int 0 (Err 4)) i.is

minus_found : (w after : List ℕ) → (i : IntAt w after) → token_at (45 ∷ (w ++ after)) ≡ Ok (lexeme Int (i.size + 1))
unfolding token_at minus_token
minus_found w after i = ap (λ o. token_or o Int 1 (token (Word MINUS) 1)) i.is

ends_integer_part : (after : List ℕ) → ends_integer after ≡ true → first_passes is_id_part after ≡ false
ends_integer_part after h = go (first_passes is_id_part after) (first_is 46 after && not (first_is 46 (drop 1 after))) h
  where
    go : (x y : Bool) → not (x || y) ≡ true → x ≡ false
    go true y h = absurd (false≢true h)
    go false y h = refl

reach_digits : (b : ℕ) (w after : List ℕ) → is_digit b ≡ true → IntAt (b ∷ w) after → Reach Int (b ∷ w) after
reach_digits b w after h i =
    let low : suc (length w) ≤ i.size = i.long in
    record {
      found = lexeme Int (i.size + 0);
      is = digits_found b w after h i;
      long = omega arith;
      wins = λ e. inl refl;
      stops = λ own e. (let size : i.size ≡ suc (length w) = i.stops (ends_integer_part after e) in omega arith);
    }

reach_minus : (w digits after : List ℕ) → w ≡ 45 ∷ digits → IntAt digits after → Reach Int w after
reach_minus w digits after is i =
    let low : length digits ≤ i.size = i.long in
    let len : length w ≡ suc (length digits) = ap length is in
    record {
      found = lexeme Int (i.size + 1);
      is = ap (λ x. token_at (x ++ after)) is ∙ minus_found digits after i;
      long = omega arith;
      wins = λ e. inl refl;
      stops = λ own e. (let size : i.size ≡ length digits = i.stops (ends_integer_part after e) in omega arith);
    }

decimal_reach : (w after : List ℕ) → IsDecimal w → IntAt w after → Reach Int w after
decimal_reach [] after d i = absurd d
decimal_reach (b ∷ w) after d i = reach_digits b w after d.0 i

pub reach-int : (w after : List ℕ) → IsSpelling Int w → Bars Int w after → Reach Int w after
reach-int w after (inl (inl d)) bars =
    let free = bars (inl d) in decimal_reach w after d (decimal-exact w after d free.0 free.1)
reach-int w after (inl (inr (ds, d, is))) bars =
    let free = bars (inr (ds, d, is)) in reach_minus w ds after is (decimal-exact ds after d free.0 free.1)
reach-int w after (inr (inl (ds, h, is))) bars =
    let i : IntAt (48 ∷ 120 ∷ ds) after = hexadecimal-exact (48 ∷ 120 ∷ ds) after (ds, h, refl) in
    subst (λ x. Reach Int x after) (sym is) (reach_digits 48 (120 ∷ ds) after refl i)
reach-int w after (inr (inr (ds, h, is))) bars = reach_minus w ds after is (hexadecimal-exact ds after h)

-- texts
pub reach-string : (w after text : List ℕ) → IsText 34 text → w ≡ 34 ∷ (text ++ 34 ∷ []) → Reach QString w after
unfolding token_at string_token
reach-string w after text t is =
    let l1 : length w ≡ suc (length (text ++ 34 ∷ [])) = ap length is in
    let l2 : length (text ++ 34 ∷ []) ≡ length text + 1 = length-append text (34 ∷ []) in
    record {
      found = lexeme QString ((length text + 1) + 1);
      is =
          ap (λ x. token_at (x ++ after)) is ∙ ap (λ x. token_at (34 ∷ x)) (append_assoc text (34 ∷ []) after)
          ∙ ap (λ o. token_or o QString 1 (Err (quote_fault 34 (text ++ 34 ∷ after)))) (quoted-exact 34 refl t after);
      long = omega arith;
      wins = λ e. inl refl;
      stops = λ own e. omega arith;
    }

-- bytes
pub reach-equals : (w after bytes : List ℕ) → HasBytes bytes → w ≡ 61 ∷ bytes → Reach EqBytes w after
unfolding token_at equals_token
reach-equals w after bytes h is =
    let l1 : length w ≡ suc (length bytes) = ap length is in
    record {
      found = lexeme EqBytes (length bytes + 1);
      is = ap (λ x. token_at (x ++ after)) is ∙ ap (λ o. token_or o EqBytes 1 (token (Word EQUALS) 1)) (bytes-exact h after);
      long = omega arith;
      wins = λ e. inl refl;
      stops = λ own e. omega arith;
    }

real_found : (n : ℕ) (w after : List ℕ) → IsBytes n w → (nat_eq n 4 || nat_eq n 8) ≡ true → token_at (w ++ after) ≡ Ok (lexeme RealBytes (length w))
unfolding token_at paren_token
real_found n w after b t =
    let f = bytes-in-exact b after in
    ap token_at f.1 ∙ ap (λ o. real_or o (token (Word OPEN_PAREN) 1)) f.3
    ∙ cond-true (nat_eq n 4 || nat_eq n 8) _ _ t ∙ ap (token RealBytes) (sym f.4)

pub reach-real : (n : ℕ) (w after : List ℕ) → IsBytes n w → (nat_eq n 4 || nat_eq n 8) ≡ true → Reach RealBytes w after
reach-real n w after b t =
    record {
      found = lexeme RealBytes (length w);
      is = real_found n w after b t;
      long = omega arith;
      wins = λ e. inl refl;
      stops = λ own e. refl;
    }

-- what bytes in parentheses with a gap before them don't begin with
bytes_first : (p : ℕ → Bool) (xs : List ℕ) (m : ℕ) → bytes_length xs ≡ Some m → p 9 ≡ false → p 10 ≡ false → p 13 ≡ false → p 32 ≡ false →
    p 47 ≡ false → p 40 ≡ false → first_passes p xs ≡ false
bytes_first p xs m e n9 n10 n13 n32 n47 n40 =
    false_from_ne_true (first_passes p xs) (λ h.
    let f = first-cons p xs h in
    let none : gap_piece (f.0 ∷ f.1) ≡ None = no-gap p f.0 f.1 f.2 n9 n10 n13 n32 n47 in
    let zero_is : gap (f.0 ∷ f.1) ≡ 0 = ap (λ r. r.bytes) (run-none gap_piece (f.0 ∷ f.1) none) in
    let closed : bytes_length (f.0 ∷ f.1) ≡ None =
    cond-false (first_is 40 (drop (gap (f.0 ∷ f.1)) (f.0 ∷ f.1))) _ _
    (ap (λ n. first_is 40 (drop n (f.0 ∷ f.1))) zero_is ∙ differ p f.0 40 f.2 n40) in
    (let bad : None ≡ Some m = sym (ap bytes_length f.3 ∙ closed) ∙ e in cc))

bytearray_name : IsName (codes "bytearray")
bytearray_name = IsName.part (inl (refl, (refl, (refl, (refl, (refl, (refl, (refl, (refl, (refl, tt))))))))))

bytearray_found : (bytes after : List ℕ) → HasBytes bytes →
    token_at (codes "bytearray" ++ (bytes ++ after)) ≡ Ok (lexeme ByteArray (9 + length bytes))
unfolding id_token bytearray_token
bytearray_found bytes after h =
    let e : bytes_length (bytes ++ after) ≡ Some (length bytes) = bytes-exact h after in
    let ids : first_passes is_id_part (bytes ++ after) ≡ false =
    bytes_first is_id_part (bytes ++ after) (length bytes) e refl refl refl refl refl refl in
    let dots : first_is 46 (bytes ++ after) ≡ false =
    bytes_first (λ b. nat_eq b 46) (bytes ++ after) (length bytes) e refl refl refl refl refl refl in
    let n : NameAt (codes "bytearray") (bytes ++ after) = name-exact bytearray_name (bytes ++ after) in
    let size : n.size ≡ 9 = n.stops ids (no-dot (bytes ++ after) dots) in
    at-id 98 _ refl
    ∙ ap (λ o. named_or (codes "bytearray" ++ (bytes ++ after)) o (Err 5)) (n.is ∙ ap Some size)
    ∙ ap Ok (named-bytes (codes "bytearray" ++ (bytes ++ after)) 9 (length bytes) dots
    (M.word-number (codes "bytearray") BYTEARRAY M.bytearray) e)

pub reach-bytearray : (w after bytes : List ℕ) → HasBytes bytes → w ≡ codes "bytearray" ++ bytes → Reach ByteArray w after
reach-bytearray w after bytes h is =
    let l1 : length w ≡ length (codes "bytearray") + length bytes = ap length is ∙ length-append (codes "bytearray") bytes in
    let l2 : length w ≡ 9 + length bytes = l1 in
    record {
      found = lexeme ByteArray (9 + length bytes);
      is =
          ap (λ x. token_at (x ++ after)) is ∙ ap token_at (append_assoc (codes "bytearray") bytes after)
          ∙ bytearray_found bytes after h;
      long = omega arith;
      wins = λ e. inl refl;
      stops = λ own e. omega arith;
    }

-- hash words and directives
pub reach-hash : (w after id : List ℕ) → IsId id → w ≡ 35 ∷ id → Reach Hash w after
unfolding token_at hash_token
reach-hash w after id h is =
    let l1 : length w ≡ suc (length id) = ap length is in
    record {
      found = lexeme Hash ((length id + front is_id_part after) + 1);
      is = ap (λ x. token_at (x ++ after)) is ∙ ap (λ o. token_or o Hash 1 (Err 5)) (id-exact id after h);
      long = omega arith;
      wins = λ e. inl refl;
      stops = λ own e.
          let none : front is_id_part after ≡ 0 = front-stops is_id_part after (not-true (first_passes is_id_part after) e) in
          omega arith;
    }

pub directive-found : (id after : List ℕ) → IsId id →
    token_at (46 ∷ (id ++ after))
    ≡ token (word_or (word_number (take ((length id + front is_id_part after) + 1) (46 ∷ (id ++ after)))) Unused) ((length id + front is_id_part after) + 1)
unfolding token_at dot_token
directive-found id after h =
    ap (λ o. directive_or (46 ∷ (id ++ after)) o
    (cond (first_is 46 (id ++ after) && first_is 46 (drop 1 (id ++ after))) (token (Word ELLIPSIS) 3) (Err 5)))
    (id-exact id after h)

pub reach-unused : (w after id : List ℕ) → IsId id → w ≡ 46 ∷ id → Reach Unused w after
reach-unused w after id h is =
    let l1 : length w ≡ suc (length id) = ap length is in
    record {
      found = lexeme (word_or (word_number (take ((length id + front is_id_part after) + 1) (46 ∷ (id ++ after)))) Unused)
          ((length id + front is_id_part after) + 1);
      is = ap (λ x. token_at (x ++ after)) is ∙ directive-found id after h;
      long = omega arith;
      wins = λ e. word_or_wins (word_number (take ((length id + front is_id_part after) + 1) (46 ∷ (id ++ after)))) Unused refl;
      stops = λ own e.
          let none : front is_id_part after ≡ 0 = front-stops is_id_part after (not-true (first_passes is_id_part after) e) in
          omega arith;
    }
