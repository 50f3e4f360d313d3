-- Texts in quotes (II.5.2): characters of one line and escapes.
use Rattle.std.specs.Prelude.{ℕ, ◌+◌, Bool, false, not, ◌==◌, ◌&&◌, ◌||◌, if◌then◌else◌, List, [], ◌∷◌, drop, Option, None, Some}
use Rattle.std.specs.Option.{option_map}
use Rattle.il_lexer.specs.Classes.{is_octal, first_is, first_passes}
use Rattle.il_lexer.specs.Runs.{run_of}

-- a line's end: a line feed, or a carriage return and a line feed
abbrev pub line_end : List ℕ → Option ℕ
line_end [] = None
line_end (b ∷ bs) = if b == 10 then Some 1 else if (b == 13) && first_is 10 bs then Some 2 else None

-- three octal digits from 001 to 177
abbrev pub is_octal_code : List ℕ → Bool
is_octal_code (a ∷ b ∷ c ∷ bs) =
    (a == 48 || a == 49) && is_octal b && is_octal c && not (a == 48 && b == 48 && c == 48)
is_octal_code _ = false

-- one of `t n r a b f v " ' \ ?`
abbrev pub is_escape_letter : ℕ → Bool
is_escape_letter b =
    b == 116 || b == 110 || b == 114 || b == 97 || b == 98 || b == 102 || b == 118 || b == 34 || b == 39 || b == 92 || b == 63

-- what may follow a backslash: a letter of an escape, three octal digits, or a line's end
abbrev pub escape_length : List ℕ → Option ℕ
escape_length bs =
    if first_passes is_escape_letter bs then Some 1 else if is_octal_code bs then Some 3 else line_end bs

-- a character or an escape that is allowed between the quotes `q`
abbrev pub char_length : ℕ → List ℕ → Option ℕ
char_length q [] = None
char_length q (b ∷ bs) =
    if b == q || b == 10 || b == 0 then None
    else if b == 92 then option_map (λ n. 1 + n) (escape_length bs)
    else Some 1

-- what any backslash takes along: the next byte, or a carriage return and a line feed
abbrev pub any_escape_length : List ℕ → Option ℕ
any_escape_length [] = None
any_escape_length (b ∷ bs) = if (b == 13) && first_is 10 bs then Some 2 else Some 1

-- a character or any escape, as to where the text ends
abbrev pub any_char_length : ℕ → List ℕ → Option ℕ
any_char_length q [] = None
any_char_length q (b ∷ bs) =
    if b == q || b == 10 then None else if b == 92 then option_map (λ n. 1 + n) (any_escape_length bs) else Some 1

-- after an opening quote `q`, the length of the allowed text up to the closing quote, and that quote
abbrev pub quoted_length : ℕ → List ℕ → Option ℕ
quoted_length q bs = let n = (run_of (char_length q) bs).bytes in if first_is q (drop n bs) then Some (n + 1) else None

-- after an opening quote `q`, the text has an end on its line, whatever escapes it has
abbrev pub ends : ℕ → List ℕ → Bool
ends q bs = first_is q (drop (run_of (any_char_length q) bs).bytes bs)

-- the rule that a quote breaks which begins no token: 3 where it ends, else 2
abbrev pub quote_fault : ℕ → List ℕ → ℕ
quote_fault q bs = if ends q bs then 3 else 2
