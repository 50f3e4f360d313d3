-- Sources as spellings with gaps between them.
use Rattle.std.proofs.Common.{◌≡◌, ℕ, suc, ◌+◌, ◌-◌, ◌<◌, ◌≤◌, Bool, true, false, not, cond, ◌&&◌, ◌||◌, nat_eq, inl, inr, List, [], ◌∷◌, ◌++◌, map, length, take, drop, None, Ok, Err, refl, ap, sym, subst, ◌∙◌, arith, length-append, length-drop, length-take-le, take-append-drop, append-nil, take_at, drop_at, drop-drop, lt_irrefl}
use Rattle.std.proofs.lemmas.Bool.{cases_Bool, cond-false, eqb-true, false≢true, or_cases}
use Rattle.std.specs.Option.{option_map}
use Rattle.il_lexer.specs.declared.types.Lexeme.{Lexeme}
use Rattle.il_lexer.specs.declared.types.Token.{Token}
use Rattle.il_lexer.specs.declared.types.TokenKind.{TokenKind}
use Rattle.il_lexer.specs.declared.types.TokenKind.TheVariants.{Word}
use Rattle.il_lexer.specs.declared.word.TheConstants.{SLASH}
use Rattle.il_lexer.specs.Classes.{is_blank, first_is}
use Rattle.il_lexer.specs.Gaps.{gap_piece, gap}
use Rattle.il_lexer.specs.Tokens.{Found, lexeme, token, slash_token, mark_token, token_at}
use Rattle.il_lexer.specs.Lexing.{LexesFrom, mark_length, after_gap, token_of}
use Rattle.il_lexer.specs.Spelled.{Each, IsGap, IsSpelling}
use Rattle.il_lexer.specs.Longest.{IsOwn, ends}
use Rattle.il_lexer.specs.Unplaced.{Spelling, Reads, spelling_in, ReadsAsItLexes, PrintedReads}
use Rattle.il_lexer.proofs.Fronts.{first-is-cons, nonempty-drop, and3-parts}
use Rattle.il_lexer.proofs.SpelledGaps.{gap-exact}
use Rattle.il_lexer.proofs.FoundTokens.{SpelledAt, found-spelled}
use Rattle.il_lexer.proofs.ReachedWords.{no-bytes}
use Rattle.il_lexer.proofs.ReachedMarks.{spelling-some}
use Rattle.il_lexer.proofs.LongestLemmas.{longest-where-it-ends}

ok_same : (a b : Lexeme) → ◌≡◌ {A = Found} (Ok a) (Ok b) → a ≡ b
ok_same a b h = cc

-- blanks are a gap
blanks_gap : (bs : List ℕ) → Each is_blank bs → IsGap bs
blanks_gap [] h = IsGap.none
blanks_gap (b ∷ bs) h = IsGap.blank h.0 (blanks_gap bs h.1)

last_gap : (bs : List ℕ) → Each is_blank bs → Reads bs []
last_gap bs h = Reads.done (ap gap (sym (append-nil bs)) ∙ gap-exact (blanks_gap bs h) [] refl)

-- no token begins with a blank
at_blank : (b : ℕ) (rest : List ℕ) (l : Lexeme) → is_blank b ≡ true → token_at (b ∷ rest) ≡ Ok l → ⊥
unfolding token_at mark_token
at_blank b rest l h e =
    elim (or_cases (nat_eq b 9 || nat_eq b 10 || nat_eq b 13) (nat_eq b 32) h) [
      | inl x ↦ elim (or_cases (nat_eq b 9 || nat_eq b 10) (nat_eq b 13) x) [
        | inl y ↦ elim (or_cases (nat_eq b 9) (nat_eq b 10) y) [
          | inl z ↦ (let bad : ◌≡◌ {A = Found} (Err 5) (Ok l) = subst (λ c. token_at (c ∷ rest) ≡ Ok l) (eqb-true b 9 z) e in cc)
          | inr z ↦ (let bad : ◌≡◌ {A = Found} (Err 5) (Ok l) = subst (λ c. token_at (c ∷ rest) ≡ Ok l) (eqb-true b 10 z) e in cc)
        ]
        | inr y ↦ (let bad : ◌≡◌ {A = Found} (Err 5) (Ok l) = subst (λ c. token_at (c ∷ rest) ≡ Ok l) (eqb-true b 13 y) e in cc)
      ]
      | inr x ↦ (let bad : ◌≡◌ {A = Found} (Err 5) (Ok l) = subst (λ c. token_at (c ∷ rest) ≡ Ok l) (eqb-true b 32 x) e in cc)
    ]

-- a `/` alone begins no comment
slash_only : (t after : List ℕ) (kind : TokenKind) → token_at (47 ∷ (t ++ after)) ≡ Ok (lexeme kind (suc (length t))) →
    (t ≡ []) × (kind ≡ Word SLASH)
unfolding token_at slash_token
slash_only t after kind h = go (first_is 42 (t ++ after)) h
  where
    go : (x : Bool) → cond x (Err 2) (token (Word SLASH) 1) ≡ Ok (lexeme kind (suc (length t))) → (t ≡ []) × (kind ≡ Word SLASH)
    go true h = cc
    go false h =
        let same : lexeme (Word SLASH) 1 ≡ lexeme kind (suc (length t)) = ok_same _ _ h in
        let size : 1 ≡ suc (length t) = ap (λ l. l.length) same in
        (no-bytes t (omega arith), sym (ap (λ l. l.kind) same))

or2 : (x y : Bool) → not (x || y) ≡ true → (x ≡ false) × (y ≡ false)
or2 true y h = absurd (false≢true h)
or2 false true h = absurd (false≢true h)
or2 false false h = (refl, refl)

no_comment : (after : List ℕ) → not (first_is 42 after || first_is 47 after) ≡ true → gap_piece (47 ∷ after) ≡ None
no_comment [] h = refl
no_comment (c ∷ after) h =
    let parts = or2 (nat_eq c 42) (nat_eq c 47) h in
    ap (option_map (λ n. 1 + n)) (cond-false (nat_eq c 47) _ _ parts.1 ∙ cond-false (nat_eq c 42) _ _ parts.0)

no_gap_before : (s : Spelling) (after : List ℕ) → IsSpelling s.kind s.text → ends s.kind s.text after ≡ true →
    token_at (s.text ++ after) ≡ Ok (lexeme s.kind (length s.text)) → gap_piece (s.text ++ after) ≡ None
no_gap_before s after spelled end h = go s.kind s.text spelled end h
  where
    slashed : (kind : TokenKind) (t : List ℕ) → ends kind (47 ∷ t) after ≡ true →
        token_at (47 ∷ (t ++ after)) ≡ Ok (lexeme kind (suc (length t))) → gap_piece (47 ∷ (t ++ after)) ≡ None
    slashed kind t end h =
        let only = slash_only t after kind h in
        ap (λ x. gap_piece (47 ∷ (x ++ after))) only.0
        ∙ no_comment after (subst (λ k. ends k (47 ∷ []) after ≡ true) only.1 (subst (λ x. ends kind (47 ∷ x) after ≡ true) only.0 end))

    go : (kind : TokenKind) (w : List ℕ) → IsSpelling kind w → ends kind w after ≡ true → token_at (w ++ after) ≡ Ok (lexeme kind (length w)) →
        gap_piece (w ++ after) ≡ None
    go kind [] spelled end h = absurd (lt_irrefl 0 (spelling-some kind [] spelled))
    go kind (b ∷ w) spelled end h = elim (cases_Bool (is_blank b)) [
      | inl t ↦ absurd (at_blank b (w ++ after) (lexeme kind (suc (length w))) t h)
      | inr t ↦ elim (cases_Bool (nat_eq b 47)) [
        | inl e ↦
            subst (λ c. gap_piece (c ∷ (w ++ after)) ≡ None) (sym (eqb-true b 47 e))
            (slashed kind w (subst (λ c. ends kind (c ∷ w) after ≡ true) (eqb-true b 47 e) end)
            (subst (λ c. token_at (c ∷ (w ++ after)) ≡ Ok (lexeme kind (suc (length w)))) (eqb-true b 47 e) h))
        | inr e ↦ cond-false (is_blank b) _ _ t ∙ cond-false (nat_eq b 47) _ _ e
      ]
    ]

next_spelling : (blanks : List ℕ) (s : Spelling) (after : List ℕ) (rest : List Spelling) → Each is_blank blanks →
    IsSpelling s.kind s.text → IsOwn s.kind s.text → ends s.kind s.text after ≡ true → Reads after rest →
    Reads (blanks ++ (s.text ++ after)) (s ∷ rest)
next_spelling blanks s after rest b spelled own end reads =
    let found : token_at (s.text ++ after) ≡ Ok (lexeme s.kind (length s.text)) = longest-where-it-ends s.kind s.text after spelled own end in
    Reads.more blanks refl (gap-exact (blanks_gap blanks b) (s.text ++ after) (no_gap_before s after spelled end found)) found reads

pub printed-reads : PrintedReads
printed-reads = record { last = last_gap; next = next_spelling }

-- from tokens to spellings
none_behind : (bs : List ℕ) (l : Lexeme) → token_at bs ≡ Ok l → 0 < length bs
unfolding token_at
none_behind [] l h = cc
none_behind (b ∷ bs) l h = omega arith

one_read : (source : List ℕ) (at : ℕ) (l : Lexeme) (rest : List Spelling) → token_at (drop (after_gap source at) source) ≡ Ok l →
    Reads (drop (after_gap source at + l.length) source) rest →
    Reads (drop at source) (spelling_in source (token_of source (after_gap source at) l) ∷ rest)
one_read source at l rest h reads =
    let p : ℕ = after_gap source at in
    let s : SpelledAt (drop (after_gap source at) source) l = found-spelled (drop (after_gap source at) source) l h in
    let some : 0 < length (drop (after_gap source at) source) = none_behind (drop (after_gap source at) source) l h in
    let behind : length (drop (after_gap source at) source) ≡ length source - (at + gap (drop at source)) =
    length-drop (after_gap source at) source in
    let whole : length (drop at source) ≡ length source - at = length-drop at source in
    let fits : gap (drop at source) ≤ length (drop at source) = omega arith in
    let size : (after_gap source at + l.length) - after_gap source at ≡ l.length = omega arith in
    let l1 : length s.front.word ≡ l.length = s.front.long in
    let l2 : length (drop (after_gap source at) source) ≡ length s.front.word + length s.front.after =
    ap length s.front.whole ∙ length-append s.front.word s.front.after in
    let within : l.length ≤ length (drop (after_gap source at) source) = omega arith in
    let text : take ((after_gap source at + l.length) - after_gap source at) (drop (after_gap source at) source)
    ≡ take l.length (drop (after_gap source at) source) = ap (λ n. take n (drop (after_gap source at) source)) size in
    let split : take ((after_gap source at + l.length) - after_gap source at) (drop (after_gap source at) source)
    ++ drop (after_gap source at + l.length) source ≡ drop (after_gap source at) source =
    ap (λ x. x ++ drop (after_gap source at + l.length) source) text
    ∙ ap (λ x. take l.length (drop (after_gap source at) source) ++ x) (sym (drop-drop l.length (after_gap source at) source))
    ∙ take-append-drop l.length (drop (after_gap source at) source) in
    let long : length (take ((after_gap source at + l.length) - after_gap source at) (drop (after_gap source at) source)) ≡ l.length =
    ap length text ∙ length-take-le l.length (drop (after_gap source at) source) within in
    Reads.more (take (gap (drop at source)) (drop at source))
    (sym (ap (λ x. take (gap (drop at source)) (drop at source) ++ x) (split ∙ sym (drop-drop (gap (drop at source)) at source))
    ∙ take-append-drop (gap (drop at source)) (drop at source)))
    (sym (length-take-le (gap (drop at source)) (drop at source) fits))
    (ap token_at split ∙ h ∙ ap (λ n. Ok (lexeme l.kind n)) (sym long))
    reads

all_read : {source : List ℕ} {at reached : ℕ} {tokens : List Token} → LexesFrom source at tokens reached →
    after_gap source reached ≡ length source → Reads (drop at source) (map (spelling_in source) tokens)
all_read {source} {at} LexesFrom.done e =
    let whole : length (drop at source) ≡ length source - at = length-drop at source in
    let sum : at + gap (drop at source) ≡ length source = e in
    Reads.done (omega arith)
all_read {source} {at} (LexesFrom.more {l = l} {tokens = tokens} found rest) e =
    one_read source at l (map (spelling_in source) tokens) found (all_read rest e)

-- from spellings to tokens
pub record Placed (source : List ℕ) (at : ℕ) (spellings : List Spelling) : Type 0 where
  pub tokens : List Token
  pub reached : ℕ
  pub lexes : LexesFrom source at tokens reached
  pub end : after_gap source reached ≡ length source
  pub same : map (spelling_in source) tokens ≡ spellings

all_placed : {bs : List ℕ} {spellings : List Spelling} → Reads bs spellings → (source : List ℕ) (at : ℕ) → drop at source ≡ bs →
    at ≤ length source → Placed source at spellings
all_placed {bs} (Reads.done e) source at is le =
    let whole : length (drop at source) ≡ length source - at = length-drop at source in
    let all : gap (drop at source) ≡ length (drop at source) = ap gap is ∙ e ∙ ap length (sym is) in
    let lexes : LexesFrom source at [] at = LexesFrom.done in
    record { tokens = []; reached = at; lexes = lexes; end = omega arith; same = refl }
all_placed {bs} (Reads.more lead {after = after} {s = s} {more = rest} e g found reads) source at is le =
    let whole : length (drop at source) ≡ length source - at = length-drop at source in
    let size : gap (drop at source) ≡ length lead = ap gap is ∙ g in
    let parts : length (drop at source) ≡ length lead + length (s.text ++ after) =
    ap length (is ∙ e) ∙ length-append lead (s.text ++ after) in
    let tail : length (s.text ++ after) ≡ length s.text + length after = length-append s.text after in
    let here : drop (after_gap source at) source ≡ s.text ++ after =
    sym (drop-drop (gap (drop at source)) at source) ∙ ap (λ n. drop n (drop at source)) size ∙ ap (drop (length lead)) (is ∙ e)
    ∙ drop_at lead (s.text ++ after) (length lead) refl in
    let next : drop (after_gap source at + length s.text) source ≡ after =
    sym (drop-drop (length s.text) (after_gap source at) source) ∙ ap (drop (length s.text)) here
    ∙ drop_at s.text after (length s.text) refl in
    let within : after_gap source at + length s.text ≤ length source = omega arith in
    let on : Placed source (after_gap source at + length s.text) rest =
    all_placed reads source (after_gap source at + length s.text) next within in
    let start : token_at (drop (after_gap source at) source) ≡ Ok (lexeme s.kind (length s.text)) = ap token_at here ∙ found in
    let span : (after_gap source at + length s.text) - after_gap source at ≡ length s.text = omega arith in
    let text : take ((after_gap source at + length s.text) - after_gap source at) (drop (after_gap source at) source) ≡ s.text =
    ap (λ n. take n (drop (after_gap source at) source)) span ∙ ap (take (length s.text)) here
    ∙ take_at s.text after (length s.text) refl in
    record {
      tokens = token_of source (after_gap source at) (lexeme s.kind (length s.text)) ∷ on.tokens;
      reached = on.reached;
      lexes = LexesFrom.more start on.lexes;
      end = on.end;
      same = ap (λ (x : List ℕ). record { kind = s.kind; text = x } ∷ map (spelling_in source) on.tokens) text
          ∙ ap (λ xs. s ∷ xs) on.same;
    }

mark_fits : (source : List ℕ) → mark_length source ≤ length source
unfolding mark_length
mark_fits source = go (first_is 0xEF source && first_is 0xBB (drop 1 source) && first_is 0xBF (drop 2 source)) refl
  where
    go : (t : Bool) → (first_is 0xEF source && first_is 0xBB (drop 1 source) && first_is 0xBF (drop 2 source)) ≡ t →
        cond t 3 0 ≤ length source
    go true e =
        let parts = and3-parts (first_is 0xEF source) (first_is 0xBB (drop 1 source)) (first_is 0xBF (drop 2 source)) e in
        let next = first-is-cons 0xBF (drop 2 source) parts.2 in
        let lt : 2 < length source = nonempty-drop 2 0xBF source next.0 next.1 in
        omega arith
    go false e = omega arith

pub reads-as-it-lexes : ReadsAsItLexes
reads-as-it-lexes = record {
  reads = λ source tokens h. all_read h.1.1 h.1.2;
  lexes = λ source spellings utf8 h.
      let p : Placed source (mark_length source) spellings = all_placed h source (mark_length source) refl (mark_fits source) in
      (p.tokens, (utf8, (p.reached, p.lexes, p.end)), p.same);
}
