-- What follows of the definitions.
use Rattle.std.specs.Prelude.{ℕ, ◌≡◌, ◌<◌, List, [], length, map, slice_index_or, Ok}
use Rattle.il_base.specs.declared.pos.Pos.{Pos}
use Rattle.il_lexer.specs.declared.types.Span.{Span}
use Rattle.il_lexer.specs.declared.types.Token.{Token}
use Rattle.il_lexer.specs.declared.types.TokenKind.TheVariants.{Word}
use Rattle.il_lexer.specs.WordList.{words}
use Rattle.il_lexer.specs.Tokens.{lexeme, token_at}
use Rattle.il_lexer.specs.Lexing.{Lexes, HasFault, IsAccepted, all_placed, span_of}

-- A source lexes into one list of tokens at most. Where it lexes within the limits it has no lexical fault, and else it has
-- one at most.
pub record OneOutcome : Type 0 where
  pub tokens : (source : List ℕ) (a b : List Token) → Lexes source a → Lexes source b → a ≡ b
  pub apart : (source : List ℕ) (tokens : List Token) (pos : Pos) (rule : ℕ) →
      IsAccepted source tokens → HasFault source pos rule → ⊥
  pub fault : (source : List ℕ) (p q : Pos) (r s : ℕ) → HasFault source p r → HasFault source q s → (p ≡ q) × (r ≡ s)

-- The tokens that a source lexes into are those that have their spans, and spans are those of their tokens.
pub record SpansAreTokens : Type 0 where
  pub tokens : (source : List ℕ) (tokens : List Token) → Lexes source tokens → all_placed source (map span_of tokens) ≡ tokens
  pub spans : (source : List ℕ) (spans : List Span) → map span_of (all_placed source spans) ≡ spans

-- each word of the table, alone, is a token whole: that word
abbrev pub WordsAreTokens : Type 0
WordsAreTokens =
    (k : ℕ) → k < 401 →
    token_at (slice_index_or words k []) ≡ Ok (lexeme (Word k) (length (slice_index_or words k [])))
