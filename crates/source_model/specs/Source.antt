-- A source with its tokens and its derivation, and the bytes and words of its tokens.
use Rattle.std.specs.Prelude.{ℕ, ◌-◌, ◌==◌, Bool, false, List, [], length, take, drop, Option, Some, None, slice_get}
use Rattle.il_base.specs.declared.pos.Pos.{Pos}
use Rattle.il_lexer.specs.Lexing.{place_of}
use Rattle.il_lexer.specs.declared.types.Token.{Token}
use Rattle.il_lexer.specs.declared.types.TokenKind.{TokenKind}
use Rattle.il_lexer.specs.declared.types.TokenKind.TheVariants.{Name, Scope, Int, QString, EqBytes, ByteArray, RealBytes, Hash, Unused, Word}
use Rattle.source_model.specs.Forest.{Forest}

pub record Source : Type 0 where
  pub bytes : List ℕ
  pub tokens : List Token
  pub tree : Forest

-- the bytes of a token
abbrev pub bytes_of : List ℕ → Option Token → List ℕ
bytes_of source None = []
bytes_of source (Some token) = take (token.end - token.start) (drop token.start source)

-- the bytes of the token with this number
abbrev pub spelling : Source → ℕ → List ℕ
spelling s k = bytes_of s.bytes (slice_get s.tokens k)

-- the number of the word that a token is
abbrev pub word_number : TokenKind → Option ℕ
word_number (Word k) = Some k
word_number Name = None
word_number Scope = None
word_number Int = None
word_number QString = None
word_number EqBytes = None
word_number ByteArray = None
word_number RealBytes = None
word_number Hash = None
word_number Unused = None

abbrev pub word_of_token : Option Token → Option ℕ
word_of_token None = None
word_of_token (Some token) = word_number token.kind

-- the number of the word that the token with this number is
abbrev pub word_at : Source → ℕ → Option ℕ
word_at s k = word_of_token (slice_get s.tokens k)

abbrev pub is_word_numbered : ℕ → Option ℕ → Bool
is_word_numbered word None = false
is_word_numbered word (Some k) = word == k

-- the token with this number is this word
abbrev pub is_word : Source → ℕ → ℕ → Bool
is_word s word k = is_word_numbered word (word_at s k)

-- where a token stands, or the source's end
abbrev pub position : Option Token → Pos → Pos
position None end = end
position (Some token) end = token.pos

-- the place of the token with this number; that of the number of tokens is the end of the source
abbrev pub place_at : Source → ℕ → Pos
place_at s k = position (slice_get s.tokens k) (place_of s.bytes (length s.bytes))
