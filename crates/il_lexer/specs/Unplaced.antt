-- Sources as spellings with gaps between them, without places (II.5).
use Rattle.std.specs.Prelude.{ℕ, ◌-◌, ◌≡◌, true, List, [], ◌∷◌, ◌++◌, map, length, take, drop, Ok, IsUtf8}
use Rattle.il_lexer.specs.Classes.{is_blank}
use Rattle.il_lexer.specs.Gaps.{gap}
use Rattle.il_lexer.specs.Tokens.{lexeme, token_at}
use Rattle.il_lexer.specs.Lexing.{Lexes, mark_length}
use Rattle.il_lexer.specs.Spelled.{Each, IsSpelling}
use Rattle.il_lexer.specs.Longest.{IsOwn, ends}
use Rattle.il_lexer.specs.declared.types.Token.{Token}
use Rattle.il_lexer.specs.declared.types.TokenKind.{TokenKind}

-- a kind of token and its bytes
pub record Spelling : Type 0 where
  pub kind : TokenKind
  pub text : List ℕ

-- the bytes are gaps and these spellings in turn, each the longest at its place, to the end
pub data Reads : List ℕ → List Spelling → Type 0 where
  done : {bs : List ℕ} → gap bs ≡ length bs → Reads bs []
  more : (lead : List ℕ) {after bs : List ℕ} {s : Spelling} {more : List Spelling} → bs ≡ lead ++ (s.text ++ after) →
      gap bs ≡ length lead → token_at (s.text ++ after) ≡ Ok (lexeme s.kind (length s.text)) → Reads after more →
      Reads bs (s ∷ more)

-- a token of a source by its bytes
abbrev pub spelling_in : List ℕ → Token → Spelling
spelling_in source t = record { kind = t.kind; text = take (t.end - t.start) (drop t.start source) }

-- a source behind its byte order mark
abbrev pub unmarked : List ℕ → List ℕ
unmarked source = drop (mark_length source) source

-- a source lexes into tokens exactly where it reads as their spellings
pub record ReadsAsItLexes : Type 0 where
  pub reads : (source : List ℕ) (tokens : List Token) → Lexes source tokens → Reads (unmarked source) (map (spelling_in source) tokens)
  pub lexes : (source : List ℕ) (spellings : List Spelling) → IsUtf8 source → Reads (unmarked source) spellings →
      (tokens : List Token) × Lexes source tokens × (map (spelling_in source) tokens ≡ spellings)

-- what is printed, spellings with blanks between them that end where they should, reads as these spellings
pub record PrintedReads : Type 0 where
  pub last : (blanks : List ℕ) → Each is_blank blanks → Reads blanks []
  pub next : (blanks : List ℕ) (s : Spelling) (after : List ℕ) (more : List Spelling) → Each is_blank blanks →
      IsSpelling s.kind s.text → IsOwn s.kind s.text → ends s.kind s.text after ≡ true → Reads after more →
      Reads (blanks ++ (s.text ++ after)) (s ∷ more)
