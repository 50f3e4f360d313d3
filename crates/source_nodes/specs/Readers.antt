-- What a reader knows of the source that it reads.
use Rattle.std.specs.Prelude.{◌≡◌, ℕ, slice_get, Some, option_map}
use Rattle.il_lexer.specs.declared.types.Token.{Token}
use Rattle.il_lexer.specs.declared.types.TokenKind.{TokenKind}
use Rattle.il_lexer.specs.Lexing.{Lexes, all_placed}
use Rattle.ilasm_grammar.specs.Parsing.{IsTreeOf}
use Rattle.source_model.specs.Forest.{preorder}
use Rattle.source_model.specs.Source.{Source}
use Rattle.source_nodes.specs.declared.reader.Reader.{Reader}

-- the token with this number is of this kind
abbrev pub IsOf : Source → TokenKind → ℕ → Type 0
IsOf s kind k = option_map (λ (t : Token). t.kind) (slice_get s.tokens k) ≡ Some kind

-- `r` reads the source `s`, which lexes and has a derivation
pub record Reads (r : Reader) (s : Source) : Type 0 where
  pub bytes : s.bytes ≡ r.source.now
  pub tokens : s.tokens ≡ all_placed r.source.now r.spans.now
  pub nodes : preorder s.tree ≡ r.nodes.now
  pub lexes : Lexes s.bytes s.tokens
  pub derived : IsTreeOf s.tokens (preorder s.tree)
