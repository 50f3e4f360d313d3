-- The token at the front of some bytes: the longest spelling that begins there, a word before a name of equal length; or
-- the rule that is broken where no token begins (II.5.2 to II.5.4).
use Rattle.std.specs.Prelude.{ℕ, ◌+◌, ◌==◌, ◌&&◌, ◌||◌, if◌then◌else◌, List, [], ◌∷◌, take, drop, Option, None, Some, Result, Ok, Err}
use Rattle.std.specs.Option.{option_map}
use Rattle.il_lexer.specs.Classes.{is_digit, is_id_start, first_is, first_passes}
use Rattle.il_lexer.specs.Quotes.{quoted_length, quote_fault}
use Rattle.il_lexer.specs.declared.pairs.Pairs.{Pairs}
use Rattle.il_lexer.specs.Spellings.{id_length, name_length, int_length, pairs_in, bytes_length}
use Rattle.il_lexer.specs.WordList.{word_number}
use Rattle.il_lexer.specs.declared.types.Lexeme.{Lexeme}
use Rattle.il_lexer.specs.declared.types.TokenKind.{TokenKind}
use Rattle.il_lexer.specs.declared.types.TokenKind.TheVariants.{Name, Scope, Int, QString, EqBytes, ByteArray, RealBytes, Hash, Unused, Word}
use Rattle.il_lexer.specs.declared.word.TheConstants.{
  BANG,
  DOUBLE_BANG,
  AMPERSAND,
  OPEN_PAREN,
  CLOSE_PAREN,
  STAR,
  PLUS,
  COMMA,
  MINUS,
  ELLIPSIS,
  SLASH,
  COLON,
  DOUBLE_COLON,
  LESS,
  EQUALS,
  GREATER,
  OPEN_BRACKET,
  CLOSE_BRACKET,
  OPEN_BRACE,
  CLOSE_BRACE,
  BYTEARRAY,
}

-- a kind and a number of bytes
abbrev pub lexeme : TokenKind → ℕ → Lexeme
lexeme kind length = record { kind = kind; length = length }

-- what is found: a token, or the number of a rule
abbrev pub Found : Type 0
Found = Result Lexeme ℕ

abbrev pub token : TokenKind → ℕ → Found
token kind length = Ok (lexeme kind length)

-- what follows has a length: a token of that length and `extra` bytes; else `other`
abbrev pub token_or : Option ℕ → TokenKind → ℕ → Found → Found
token_or None kind extra other = other
token_or (Some n) kind extra other = token kind (n + extra)

-- the kind of a word where there is its number, else `other`
abbrev pub word_or : Option ℕ → TokenKind → TokenKind
word_or None other = other
word_or (Some k) other = Word k

-- the first `n` bytes as a word, where they are one
abbrev pub word_of : List ℕ → ℕ → Option Lexeme
word_of bs n = option_map (λ k. lexeme (Word k) n) (word_number (take n bs))

abbrev pub or_lexeme : Option Lexeme → Option Lexeme → Option Lexeme
or_lexeme None other = other
or_lexeme (Some found) other = Some found

-- the word that goes on behind a name of `n` bytes: with a dot and a digit, or with a dot alone
unfoldable pub longer_word : List ℕ → ℕ → Option Lexeme
longer_word bs n =
    if first_is 46 (drop n bs) then
    or_lexeme (if first_passes is_digit (drop (n + 1) bs) then word_of bs (n + 2) else None) (word_of bs (n + 1))
    else None

-- `bytearray`, of `n` bytes, and the length of the bytes that follow it
abbrev pub with_bytes : Option ℕ → ℕ → Lexeme
with_bytes None n = lexeme (Word BYTEARRAY) n
with_bytes (Some m) n = lexeme ByteArray (n + m)

-- `bytearray`, of `n` bytes, with the bytes in parentheses that follow it, or without
unfoldable pub bytearray_token : List ℕ → ℕ → Lexeme
bytearray_token bs n = with_bytes (bytes_length (drop n bs)) n

-- a name of `n` bytes, or the word that it is
abbrev pub name_or_word : List ℕ → ℕ → Option ℕ → Lexeme
name_or_word bs n None = lexeme Name n
name_or_word bs n (Some k) = if k == BYTEARRAY then bytearray_token bs n else lexeme (Word k) n

abbrev pub lexeme_or : Option Lexeme → Lexeme → Lexeme
lexeme_or None other = other
lexeme_or (Some found) other = found

-- the token that begins with a name of `n` bytes
unfoldable pub named : List ℕ → ℕ → Lexeme
named bs n = lexeme_or (longer_word bs n) (name_or_word bs n (word_number (take n bs)))

abbrev pub named_or : List ℕ → Option ℕ → Found → Found
named_or bs None other = other
named_or bs (Some n) other = Ok (named bs n)

-- at the first byte of an identifier
unfoldable pub id_token : List ℕ → Found
id_token bs = named_or bs (name_length bs) (Err 5)

-- at a `'`
unfoldable pub quoted_name_token : List ℕ → Found
quoted_name_token bs = token_or (name_length bs) Name 0 (Err (quote_fault 39 (drop 1 bs)))

-- at a `"`
unfoldable pub string_token : List ℕ → Found
string_token bs = token_or (quoted_length 34 (drop 1 bs)) QString 1 (Err (quote_fault 34 (drop 1 bs)))

-- at a digit
unfoldable pub digits_token : List ℕ → Found
digits_token bs = token_or (int_length bs) Int 0 (Err 4)

-- at a `-`
unfoldable pub minus_token : List ℕ → Found
minus_token bs = token_or (int_length (drop 1 bs)) Int 1 (token (Word MINUS) 1)

-- a dot and an identifier of `n` bytes
abbrev pub directive_or : List ℕ → Option ℕ → Found → Found
directive_or bs None other = other
directive_or bs (Some n) other = token (word_or (word_number (take (n + 1) bs)) Unused) (n + 1)

-- at a dot: a directive or `...`
unfoldable pub dot_token : List ℕ → Found
dot_token bs = directive_or bs (id_length (drop 1 bs))
    (if first_is 46 (drop 1 bs) && first_is 46 (drop 2 bs) then token (Word ELLIPSIS) 3 else Err 5)

-- at a `#`
unfoldable pub hash_token : List ℕ → Found
hash_token bs = token_or (id_length (drop 1 bs)) Hash 1 (Err 5)

-- a `[`, a name of `n` bytes, and a `]`
abbrev pub scope_or : List ℕ → Option ℕ → Found → Found
scope_or bs None other = other
scope_or bs (Some n) other =
    if first_is 93 (drop (n + 1) bs) then token (word_or (word_number (take (n + 2) bs)) Scope) (n + 2) else other

-- at a `[`: a bracket word or a name in brackets, or the mark
unfoldable pub bracket_token : List ℕ → Found
bracket_token bs = scope_or bs (name_length (drop 1 bs)) (token (Word OPEN_BRACKET) 1)

-- at a `=`
unfoldable pub equals_token : List ℕ → Found
equals_token bs = token_or (bytes_length (drop 1 bs)) EqBytes 1 (token (Word EQUALS) 1)

-- four or eight bytes in parentheses
abbrev pub real_or : Option Pairs → Found → Found
real_or None other = other
real_or (Some p) other = if p.count == 4 || p.count == 8 then token RealBytes (p.bytes + 1) else other

-- at a `(`
unfoldable pub paren_token : List ℕ → Found
paren_token bs = real_or (pairs_in (drop 1 bs)) (token (Word OPEN_PAREN) 1)

-- at a `/`, which begins no comment that ends
unfoldable pub slash_token : List ℕ → Found
slash_token bs = if first_is 42 (drop 1 bs) then Err 2 else token (Word SLASH) 1

-- at a mark that may be doubled: `:` or `!`
abbrev pub doubled_token : ℕ → ℕ → ℕ → List ℕ → Found
doubled_token byte one two bs = if first_is byte (drop 1 bs) then token (Word two) 2 else token (Word one) 1

-- at any other byte: a mark of one byte
unfoldable pub mark_token : ℕ → Found
mark_token b =
    if b == 123 then token (Word OPEN_BRACE) 1
    else if b == 125 then token (Word CLOSE_BRACE) 1
    else if b == 41 then token (Word CLOSE_PAREN) 1
    else if b == 93 then token (Word CLOSE_BRACKET) 1
    else if b == 60 then token (Word LESS) 1
    else if b == 62 then token (Word GREATER) 1
    else if b == 44 then token (Word COMMA) 1
    else if b == 43 then token (Word PLUS) 1
    else if b == 38 then token (Word AMPERSAND) 1
    else if b == 42 then token (Word STAR) 1
    else Err 5

-- the token at the front, by its first byte
unfoldable pub token_at : List ℕ → Found
token_at [] = Err 5
token_at (b ∷ bs) =
    if is_id_start b then id_token (b ∷ bs)
    else if is_digit b then digits_token (b ∷ bs)
    else if b == 39 then quoted_name_token (b ∷ bs)
    else if b == 34 then string_token (b ∷ bs)
    else if b == 46 then dot_token (b ∷ bs)
    else if b == 35 then hash_token (b ∷ bs)
    else if b == 91 then bracket_token (b ∷ bs)
    else if b == 45 then minus_token (b ∷ bs)
    else if b == 61 then equals_token (b ∷ bs)
    else if b == 40 then paren_token (b ∷ bs)
    else if b == 47 then slash_token (b ∷ bs)
    else if b == 58 then doubled_token 58 COLON DOUBLE_COLON (b ∷ bs)
    else if b == 33 then doubled_token 33 BANG DOUBLE_BANG (b ∷ bs)
    else mark_token b
