-- The longest spelling at a place, and where a printed token ends (II.5.2 to II.5.4).
use Rattle.std.specs.Prelude.{ℕ, ◌≡◌, ◌≤◌, Bool, true, false, not, ◌==◌, ◌&&◌, ◌||◌, ◌⊎◌, if◌then◌else◌, List, [], ◌∷◌, ◌++◌, length, take, drop, codes, None, Ok, Err}
use Rattle.std.specs.Str.{bytes_eq}
use Rattle.il_lexer.specs.Classes.{is_blank, is_digit, is_hex, is_id_start, is_id_part, first_is, first_passes}
use Rattle.il_lexer.specs.Spellings.{is_barred}
use Rattle.il_lexer.specs.Tokens.{lexeme, token_at}
use Rattle.il_lexer.specs.WordList.{word_number}
use Rattle.il_lexer.specs.Spelled.{IsSpelling, IsDecimal, Signed}
use Rattle.il_lexer.specs.declared.types.Lexeme.{Lexeme}
use Rattle.il_lexer.specs.declared.types.TokenKind.{TokenKind}
use Rattle.il_lexer.specs.declared.types.TokenKind.TheVariants.{Name, Int, Hash, Unused, Word}

-- What bars a spelling. The decimal digits of an integer are all that stand there, and no dot that no second dot follows,
-- and no exponent, stands behind them. A `/` before `*` begins a comment, and behind a gap one that doesn't end.
pub record IsFree (w after : List ℕ) : Type 0 where
  pub digits : Signed IsDecimal w → (first_passes is_digit after ≡ false) × (is_barred after ≡ false)
  pub slash : w ≡ 47 ∷ [] → first_is 42 after ≡ false

-- a spelling of the kind stands before the rest
pub record Stands (kind : TokenKind) (w after : List ℕ) : Type 0 where
  pub spelled : IsSpelling kind w
  pub free : IsFree w after

abbrev pub is_word : TokenKind → Bool
is_word (Word k) = true
is_word _ = false

-- of two kinds with one spelling the first is taken: a reserved word, a directive or a bracket word before a name
abbrev pub Wins : TokenKind → TokenKind → Type 0
Wins kind other = (kind ≡ other) ⊎ ((is_word kind ≡ true) × (is_word other ≡ false))

-- the longest spelling at the front of some bytes
pub record IsLongest (rest : List ℕ) (l : Lexeme) : Type 0 where
  pub within : l.length ≤ length rest
  pub stands : Stands l.kind (take l.length rest) (drop l.length rest)
  pub longest : (kind : TokenKind) (w after : List ℕ) → w ++ after ≡ rest → Stands kind w after → length w ≤ l.length
  pub first : (kind : TokenKind) → Stands kind (take l.length rest) (drop l.length rest) → Wins l.kind kind

-- no spelling stands at the front
abbrev pub NoneStands : List ℕ → Type 0
NoneStands rest = (kind : TokenKind) (w after : List ℕ) → w ++ after ≡ rest → Stands kind w after → ⊥

-- characters of one line and any escapes: a backslash takes the next byte along, or a carriage return and a line feed
pub data IsAnyText (q : ℕ) : List ℕ → Type 0 where
  none : IsAnyText q []
  plain : {b : ℕ} {bs : List ℕ} → not (b == q || b == 10 || b == 92) ≡ true → IsAnyText q bs → IsAnyText q (b ∷ bs)
  escape : {b : ℕ} {bs w : List ℕ} → IsAnyText q bs → w ≡ 92 ∷ b ∷ bs → IsAnyText q w
  return_line : {bs w : List ℕ} → IsAnyText q bs → w ≡ 92 ∷ 13 ∷ 10 ∷ bs → IsAnyText q w

-- a quote stands at the front, and the text behind it ends
abbrev pub Closes : List ℕ → Type 0
Closes rest =
    (q : ℕ) × (text : List ℕ) × (after : List ℕ)
    × ((q ≡ 34) ⊎ (q ≡ 39)) × IsAnyText q text × (rest ≡ q ∷ (text ++ q ∷ after))

abbrev pub is_quote : ℕ → Bool
is_quote b = b == 34 || b == 39

-- the front of a comment
abbrev pub is_comment : List ℕ → Bool
is_comment rest = first_is 47 rest && first_is 42 (drop 1 rest)

-- Why no token begins at the front: rule L3 at a quote whose text ends, L2 at one that doesn't and at a comment that
-- doesn't, L4 at digits, and L5 anywhere else.
pub data Breaks (rest : List ℕ) : ℕ → Type 0 where
  text : {rule : ℕ} → rule ≡ 3 → Closes rest → Breaks rest rule
  quote : {rule : ℕ} → rule ≡ 2 → first_passes is_quote rest ≡ true → ¬ (Closes rest) → Breaks rest rule
  comment : {rule : ℕ} → rule ≡ 2 → is_comment rest ≡ true → Breaks rest rule
  digits : {rule : ℕ} → rule ≡ 4 → first_passes is_digit rest ≡ true → Breaks rest rule
  other : {rule : ℕ} → rule ≡ 5 → first_passes is_quote rest ≡ false → is_comment rest ≡ false →
      first_passes is_digit rest ≡ false → Breaks rest rule

-- `token_at` is the longest spelling, and there is no other; where there is none it is the rule that is broken
pub record LongestSpelling : Type 0 where
  pub token : (rest : List ℕ) (l : Lexeme) → token_at rest ≡ Ok l → IsLongest rest l
  pub only : (rest : List ℕ) (l : Lexeme) → IsLongest rest l → token_at rest ≡ Ok l
  pub fault : (rest : List ℕ) (rule : ℕ) → token_at rest ≡ Err rule → NoneStands rest × Breaks rest rule

-- Where a printed token ends: what stands behind it goes on with no longer spelling.

-- behind a name, or a word that begins as one, there is no byte of an identifier, no dot and no quote
abbrev pub ends_name : List ℕ → Bool
ends_name after = not (first_passes is_id_part after || first_is 46 after || first_is 39 after)

-- behind an integer there is no byte of an identifier, and a dot only before another
abbrev pub ends_integer : List ℕ → Bool
ends_integer after = not (first_passes is_id_part after || (first_is 46 after && not (first_is 46 (drop 1 after))))

-- behind blanks there is no `(` and no comment
abbrev pub ends_before_bytes : List ℕ → Bool
ends_before_bytes [] = true
ends_before_bytes (b ∷ bs) = if is_blank b then ends_before_bytes bs else not (b == 40 || b == 47)

-- a gap begins at the front: a blank, or a comment by its first two bytes
abbrev pub gap_begins : List ℕ → Bool
gap_begins bs =
    first_passes is_blank bs || (first_is 47 bs && (first_is 42 (drop 1 bs) || first_is 47 (drop 1 bs)))

-- behind `(` there is no gap, and no pair of digits with a gap behind it
abbrev pub ends_parenthesis : List ℕ → Bool
ends_parenthesis after =
    not (gap_begins after)
    && not (first_passes is_hex after && first_passes is_hex (drop 1 after) && gap_begins (drop 2 after))

-- behind a word, by its first bytes
abbrev pub ends_word : List ℕ → List ℕ → Bool
ends_word w after =
    if bytes_eq w (codes "!") then not (first_is 33 after)
    else if bytes_eq w (codes ":") then not (first_is 58 after)
    else if bytes_eq w (codes "/") then not (first_is 42 after || first_is 47 after)
    else if bytes_eq w (codes "-") then not (first_passes is_digit after)
    else if bytes_eq w (codes "=") then ends_before_bytes after
    else if bytes_eq w (codes "(") then ends_parenthesis after
    else if bytes_eq w (codes "[") then not (first_passes is_id_start after || first_is 39 after)
    else if bytes_eq w (codes "bytearray") then ends_name after && ends_before_bytes after
    else if first_passes is_id_start w then ends_name after
    else if bytes_eq w (codes "...") then true
    else if first_is 46 w then not (first_passes is_id_part after)
    else true

-- behind a spelling of any kind
abbrev pub ends : TokenKind → List ℕ → List ℕ → Bool
ends Name w after = ends_name after
ends Int w after = ends_integer after
ends Hash w after = not (first_passes is_id_part after)
ends Unused w after = not (first_passes is_id_part after)
ends (Word k) w after = ends_word w after
ends _ w after = true

-- no word takes the spelling from the kind
abbrev pub IsOwn : TokenKind → List ℕ → Type 0
IsOwn kind w = (is_word kind ≡ true) ⊎ (word_number w ≡ None)

-- a spelling before the rest is the longest, and of this kind, where it ends there and no word is spelled so
abbrev pub LongestWhereItEnds : Type 0
LongestWhereItEnds =
    (kind : TokenKind) (w after : List ℕ) → IsSpelling kind w → IsOwn kind w → ends kind w after ≡ true →
    token_at (w ++ after) ≡ Ok (lexeme kind (length w))
