-- One more token behind those that a front of a source lexes into.
use Rattle.std.proofs.Common.{◌≡◌, ℕ, ◌+◌, ◌<◌, ◌≤◌, ◌^◌, max, List, [], ◌∷◌, ◌++◌, length, drop, map, Ok, refl, ap, sym, subst, ◌∙◌, arith, length-append}
use Rattle.std.proofs.lemmas.List.{length-map, map-append}
use Rattle.il_lexer.specs.Laws.{SpansAreTokens}
use Rattle.il_lexer.specs.declared.types.Span.{Span}
use Rattle.il_lexer.specs.declared.types.Lexeme.{Lexeme}
use Rattle.il_lexer.specs.declared.types.Token.{Token}
use Rattle.il_lexer.specs.Tokens.{token_at}
use Rattle.il_lexer.specs.Lexing.{Scanned, LexesFrom, done, more, LexesTo, mark_length, after_gap, token_of, span_of, placed, all_placed, depth_after, depth_from, deepest_from, WithinLimits}

pub lexes-push : {source : List ℕ} {at reached : ℕ} {tokens : List Token} {l : Lexeme} → LexesFrom source at tokens reached →
    token_at (drop (after_gap source reached) source) ≡ Ok l →
    LexesFrom source at (tokens ++ token_of source (after_gap source reached) l ∷ []) (after_gap source reached + l.length)
lexes-push done e = more e done
lexes-push (more first rest) e = more first (lexes-push rest e)

pub depth-push : (d : ℕ) (ts : List Token) (t : Token) → depth_from d (ts ++ t ∷ []) ≡ depth_after (depth_from d ts) t.kind
depth-push d [] t = refl
depth-push d (x ∷ ts) t = depth-push (depth_after d x.kind) ts t

deepest-push : (d : ℕ) (ts : List Token) (t : Token) →
    deepest_from d (ts ++ t ∷ []) ≡ max (deepest_from d ts) (depth_after (depth_from d ts) t.kind)
deepest-push d [] t = refl
deepest-push d (x ∷ ts) t =
    let e = deepest-push (depth_after d x.kind) ts t in
    ap (λ n. max d n) e ∙ grind arith

pub limits-push : (ts : List Token) (t : Token) → WithinLimits ts → length ts < 2 ^ 24 →
    depth_after (depth_from 0 ts) t.kind ≤ 400 → WithinLimits (ts ++ t ∷ [])
limits-push ts t w few shallow =
    let len : length (ts ++ t ∷ []) ≡ length ts + 1 = length-append ts (t ∷ []) in
    let deep : deepest_from 0 (ts ++ t ∷ []) ≡ max (deepest_from 0 ts) (depth_after (depth_from 0 ts) t.kind) = deepest-push 0 ts t in
    let before : deepest_from 0 ts ≤ 400 = w.shallow in
    record { few = omega arith; shallow = omega arith }

-- before the first token
pub nothing-yet : (source : List ℕ) (spans : List Span) (at : ℕ) → spans ≡ [] → at ≡ mark_length source → at ≤ length source →
    Scanned source (all_placed source spans) at 0
nothing-yet source spans at none start within =
    let front : LexesFrom source at [] at = done in
    let empty : all_placed source spans ≡ [] = ap (all_placed source) none in
    record {
      within = within;
      front = subst (λ ts. LexesTo source ts at) (sym empty) (subst (λ s. LexesFrom source s [] at) start front);
      limits = subst WithinLimits (sym empty) (record { few = omega arith; shallow = omega arith });
      depth = ap (depth_from 0) (sym empty);
    }

deepest-last : (d : ℕ) (ts : List Token) → depth_from d ts ≤ deepest_from d ts
deepest-last d [] = omega arith
deepest-last d (t ∷ ts) =
    let more : depth_from (depth_after d t.kind) ts ≤ deepest_from (depth_after d t.kind) ts = deepest-last (depth_after d t.kind) ts in
    omega arith

pub depth-small : {source : List ℕ} {tokens : List Token} {at : ℕ} {depth : ℕ} → Scanned source tokens at depth → depth ≤ 400
depth-small {source} {tokens} {at} {depth} s =
    let last : depth_from 0 tokens ≤ deepest_from 0 tokens = deepest-last 0 tokens in
    let deep : deepest_from 0 tokens ≤ 400 = s.limits.shallow in
    let is : depth ≡ depth_from 0 tokens = s.depth in
    omega arith

-- behind one more token
pub scanned-push : (source : List ℕ) (before now : List Span) (at depth next : ℕ) (span : Span) →
    Scanned source (all_placed source before) at depth →
    (l : Lexeme) → token_at (drop (after_gap source at) source) ≡ Ok l → placed source span ≡ token_of source (after_gap source at) l →
    span.end ≤ length source → length before < 2 ^ 24 → next ≡ depth_after depth span.kind → next ≤ 400 →
    now ≡ before ++ span ∷ [] → Scanned source (all_placed source now) span.end next
scanned-push source before now at depth next span s l found is within few deeper shallow pushed =
    let ts = all_placed source before in
    let t = placed source span in
    let more : all_placed source now ≡ ts ++ t ∷ [] = ap (all_placed source) pushed ∙ map-append (placed source) before (span ∷ []) in
    let front : LexesTo source (ts ++ token_of source (after_gap source at) l ∷ []) (after_gap source at + l.length) =
    lexes-push s.front found in
    let front_t : LexesTo source (ts ++ t ∷ []) t.end = subst (λ (x : Token). LexesTo source (ts ++ x ∷ []) x.end) (sym is) front in
    let depth_is : next ≡ depth_after (depth_from 0 ts) t.kind = deeper ∙ ap (λ d. depth_after d t.kind) s.depth in
    let low : depth_after (depth_from 0 ts) t.kind ≤ 400 = subst (λ n. n ≤ 400) depth_is shallow in
    let long : length ts < 2 ^ 24 = omega (arith, length-map before (placed source)) in
    record {
      within = within;
      front = subst (λ x. LexesTo source x t.end) (sym more) front_t;
      limits = subst WithinLimits (sym more) (limits-push ts t s.limits long low);
      depth = depth_is ∙ sym (depth-push 0 ts t) ∙ ap (depth_from 0) (sym more);
    }

placed_from : {source : List ℕ} {at reached : ℕ} {tokens : List Token} → LexesFrom source at tokens reached →
    all_placed source (map span_of tokens) ≡ tokens
placed_from done = refl
placed_from {source} {at} (more {l = l} first rest) = ap (λ ts. token_of source (after_gap source at) l ∷ ts) (placed_from rest)

spans_placed : (source : List ℕ) (spans : List Span) → map span_of (all_placed source spans) ≡ spans
spans_placed source [] = refl
spans_placed source (span ∷ spans) = ap (λ ss. span ∷ ss) (spans_placed source spans)

pub spans_are : SpansAreTokens
spans_are = record { tokens = λ source tokens h. placed_from h.1.1; spans = spans_placed }
