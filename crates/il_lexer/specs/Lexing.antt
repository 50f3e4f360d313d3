-- What it is that a source lexes into tokens, and what its lexical fault is (II.5).
use Rattle.std.specs.Prelude.{ℕ, ◌+◌, ◌-◌, ◌≡◌, ◌<◌, ◌≤◌, ◌^◌, max, Bool, not, ◌==◌, ◌&&◌, ◌||◌, ◌⊎◌, if◌then◌else◌, List, [], ◌∷◌, length, map, take, drop, Result, Ok, Err, IsUtf8, ⊤}
use Rattle.std.specs.Str.Lossy.{utf8_valid_len}
use Rattle.il_base.specs.declared.pos.Pos.{Pos}
use Rattle.il_lexer.specs.Classes.{first_is}
use Rattle.il_lexer.specs.Gaps.{gap}
use Rattle.il_lexer.specs.Runs.{front}
use Rattle.il_lexer.specs.declared.lines.Line.{Line}
use Rattle.il_lexer.specs.Tokens.{token_at}
use Rattle.il_lexer.specs.declared.types.LexFault.{LexFault}
use Rattle.il_lexer.specs.declared.types.LexFault.TheVariants.{Bad, NoMemory}
use Rattle.il_lexer.specs.declared.types.Lexeme.{Lexeme}
use Rattle.il_lexer.specs.declared.types.Span.{Span}
use Rattle.il_lexer.specs.declared.types.Token.{Token}
use Rattle.il_lexer.specs.declared.types.TokenKind.{TokenKind}
use Rattle.il_lexer.specs.declared.types.TokenKind.TheVariants.{Word}
use Rattle.il_lexer.specs.declared.word.TheConstants.{
  OPEN_PAREN,
  CLOSE_PAREN,
  LESS,
  GREATER,
  OPEN_BRACKET,
  CLOSE_BRACKET,
  OPEN_BRACE,
  CLOSE_BRACE,
}

-- the place behind a byte: a line feed begins the next line, any other byte goes one column on
abbrev pub next_place : Pos → ℕ → Pos
next_place p b = if b == 10 then record { line = p.line + 1; col = 1 } else record { line = p.line; col = p.col + 1 }

-- the place behind some bytes
abbrev pub place_after : Pos → List ℕ → Pos
place_after p [] = p
place_after p (b ∷ bs) = place_after (next_place p b) bs

-- the place of the byte at `at`
unfoldable pub place_of : List ℕ → ℕ → Pos
place_of source at = place_after (record { line = 1; col = 1 }) (take at source)

-- a line of the source: its number, its first byte, and its line feed or the source's end
pub record IsLine (source : List ℕ) (line : Line) : Type 0 where
  pub within : line.start ≤ length source
  pub begins : place_of source line.start ≡ record { line = line.number; col = 1 }
  pub ends : line.end ≡ line.start + front (λ c. not (c == 10)) (drop line.start source)

-- the byte order mark, which at the very front is a gap
unfoldable pub mark_length : List ℕ → ℕ
mark_length source =
    if first_is 0xEF source && first_is 0xBB (drop 1 source) && first_is 0xBF (drop 2 source) then 3 else 0

-- where the gap at `at` ends
abbrev pub after_gap : List ℕ → ℕ → ℕ
after_gap source at = at + gap (drop at source)

-- the lexeme at `at`, as a token
abbrev pub token_of : List ℕ → ℕ → Lexeme → Token
token_of source at l = record { kind = l.kind; start = at; end = at + l.length; pos = place_of source at }

-- what a token spans
abbrev pub span_of : Token → Span
span_of t = record { kind = t.kind; start = t.start; end = t.end }

-- a span of the source, as a token
abbrev pub placed : List ℕ → Span → Token
placed source s = record { kind = s.kind; start = s.start; end = s.end; pos = place_of source s.start }

-- the tokens that have these spans
abbrev pub all_placed : List ℕ → List Span → List Token
all_placed source spans = map (placed source) spans

-- from `at` on there are gaps and these tokens in turn, up to `reached`
pub data LexesFrom (source : List ℕ) : ℕ → List Token → ℕ → Type 0 where
  done : {at : ℕ} → LexesFrom source at [] at
  more : {at reached : ℕ} {l : Lexeme} {tokens : List Token} →
      token_at (drop (after_gap source at) source) ≡ Ok l →
      LexesFrom source (after_gap source at + l.length) tokens reached →
      LexesFrom source at (token_of source (after_gap source at) l ∷ tokens) reached

-- a front of the source, up to `reached`, is gaps and these tokens in turn
abbrev pub LexesTo : List ℕ → List Token → ℕ → Type 0
LexesTo source tokens reached = LexesFrom source (mark_length source) tokens reached

-- the source is UTF-8, and gaps and these tokens in turn
abbrev pub Lexes : List ℕ → List Token → Type 0
Lexes source tokens =
    IsUtf8 source × ((reached : ℕ) × LexesTo source tokens reached × (after_gap source reached ≡ length source))

-- the word with this number opens a bracket
abbrev pub is_opening : ℕ → Bool
is_opening k = k == OPEN_BRACE || k == OPEN_PAREN || k == OPEN_BRACKET || k == LESS

-- the word with this number closes one
abbrev pub is_closing : ℕ → Bool
is_closing k = k == CLOSE_BRACE || k == CLOSE_PAREN || k == CLOSE_BRACKET || k == GREATER

-- the depth of brackets behind a token
unfoldable pub depth_after : ℕ → TokenKind → ℕ
depth_after depth (Word k) = if is_opening k then depth + 1 else if is_closing k then depth - 1 else depth
depth_after depth _ = depth

-- the depth behind some tokens
abbrev pub depth_from : ℕ → List Token → ℕ
depth_from depth [] = depth
depth_from depth (t ∷ ts) = depth_from (depth_after depth t.kind) ts

-- the greatest depth behind any of some tokens
abbrev pub deepest_from : ℕ → List Token → ℕ
deepest_from depth [] = depth
deepest_from depth (t ∷ ts) = max depth (deepest_from (depth_after depth t.kind) ts)

-- at most 16,777,216 tokens, and brackets at most 400 deep
pub record WithinLimits (tokens : List Token) : Type 0 where
  pub few : length tokens ≤ 2 ^ 24
  pub shallow : deepest_from 0 tokens ≤ 400

-- the rule that is broken behind these tokens, where next there stands what `found` says
abbrev pub BreaksNext : List Token → Result Lexeme ℕ → ℕ → Type 0
BreaksNext tokens (Err broken) rule = rule ≡ broken
BreaksNext tokens (Ok l) rule =
    ((length tokens ≡ 2 ^ 24) × (rule ≡ 6))
    ⊎ ((length tokens < 2 ^ 24) × (400 < depth_after (depth_from 0 tokens) l.kind) × (rule ≡ 7))

-- the first place where the source breaks rule L2 to L7
pub record BreaksAt (source : List ℕ) (pos : Pos) (rule : ℕ) : Type 0 where
  pub tokens : List Token
  pub reached : ℕ
  pub front : LexesTo source tokens reached
  pub limits : WithinLimits tokens
  pub within : after_gap source reached < length source
  pub place : pos ≡ place_of source (after_gap source reached)
  pub breaks : BreaksNext tokens (token_at (drop (after_gap source reached) source)) rule

-- The lexical fault of a source: L1 at the first byte of no whole character, else the first of the others.
abbrev pub HasFault : List ℕ → Pos → ℕ → Type 0
HasFault source pos rule =
    ((¬ (IsUtf8 source)) × (rule ≡ 1) × (pos ≡ place_of source (utf8_valid_len source)))
    ⊎ (IsUtf8 source × BreaksAt source pos rule)

-- the source lexes into these tokens, and within the limits
pub record IsAccepted (source : List ℕ) (tokens : List Token) : Type 0 where
  pub lexes : Lexes source tokens
  pub limits : WithinLimits tokens

-- a fact of the place and the rule, where the fault is one of the source
abbrev pub IfBad : LexFault → (Pos → ℕ → Type 0) → Type 0
IfBad (Bad pos rule) P = P pos rule
IfBad NoMemory P = ⊤

-- what the scan knows behind some tokens
pub record Scanned (source : List ℕ) (tokens : List Token) (at : ℕ) (open_brackets : ℕ) : Type 0 where
  pub within : at ≤ length source
  pub front : LexesTo source tokens at
  pub limits : WithinLimits tokens
  pub depth : open_brackets ≡ depth_from 0 tokens
