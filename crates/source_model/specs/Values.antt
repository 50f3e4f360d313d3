-- The texts, numbers and bytes that tokens spell (ECMA-335 II.5.2, II.5.3, II.16.2).
use Rattle.std.specs.Prelude.{ℕ, zero, suc, ◌+◌, ◌-◌, ◌*◌, ◌==◌, ◌&&◌, nat_le, if◌then◌else◌, ℤ, pos, neg_ℤ, List, [], ◌∷◌, ◌++◌, length, take, drop, fold, Option, None, Some, chars}
use Rattle.std.specs.List.{flat_map}
use Rattle.std.specs.Char.Escape.{encode_utf16}
use Rattle.il_lexer.specs.Classes.{first_is, is_hex}
use Rattle.il_lexer.specs.Gaps.{gap}
use Rattle.il_lexer.specs.Quotes.{escape_length, is_escape_letter}
use Rattle.il_lexer.specs.Spellings.{part_length}
use Rattle.source_model.specs.Source.{Source, spelling}

abbrev pub or_zero : Option ℕ → ℕ
or_zero None = 0
or_zero (Some n) = n

-- ---- texts in quotes

-- the byte of an escape of one letter: `\t`, `\n`, `\r`, `\a`, `\b`, `\f`, `\v`, and a quote, a backslash or a `?` for itself
abbrev pub letter_value : ℕ → ℕ
letter_value b =
    if b == 116 then 9 else if b == 110 then 10 else if b == 114 then 13 else if b == 97 then 7 else if b == 98 then 8
    else if b == 102 then 12 else if b == 118 then 11 else b

-- the byte of an escape of three octal digits
abbrev pub octal_value : List ℕ → ℕ
octal_value ds = fold (λ value digit. value * 8 + (digit - 48)) 0 (take 3 ds)

-- what the escape at the front gives, after its backslash: a byte, and nothing for a line's end
abbrev pub escape_bytes : List ℕ → List ℕ
escape_bytes [] = []
escape_bytes (b ∷ bs) =
    if is_escape_letter b then letter_value b ∷ []
    else if nat_le 48 b && nat_le b 55 then octal_value (b ∷ bs) ∷ []
    else []

-- the bytes that a text between quotes stands for, in at most so many steps
abbrev pub unescaped_within : ℕ → List ℕ → List ℕ
unescaped_within zero bs = []
unescaped_within (suc steps) [] = []
unescaped_within (suc steps) (b ∷ bs) =
    if b == 92 then escape_bytes bs ++ unescaped_within steps (drop (or_zero (escape_length bs)) bs)
    else b ∷ unescaped_within steps bs

-- the bytes that a text between quotes stands for: each character for itself, each escape for what it gives
unfoldable pub unescaped : List ℕ → List ℕ
unescaped bs = unescaped_within (length bs) bs

-- a text without the quotes around it
abbrev pub between_quotes : List ℕ → List ℕ
between_quotes bs = take (length bs - 2) (drop 1 bs)

-- ---- names

-- a part of a name: an identifier for itself, or a text in single quotes for what it stands for
abbrev pub part_text : List ℕ → List ℕ
part_text bs = if first_is 39 bs then unescaped (between_quotes bs) else bs

-- the texts of the parts of a name, which single dots join
abbrev pub part_texts_within : ℕ → List ℕ → List (List ℕ)
part_texts_within zero bs = []
part_texts_within (suc steps) [] = []
part_texts_within (suc steps) (b ∷ bs) =
    let n = or_zero (part_length (b ∷ bs)) in
    part_text (take n (b ∷ bs)) ∷ part_texts_within steps (drop (n + 1) (b ∷ bs))

unfoldable pub part_texts : List ℕ → List (List ℕ)
part_texts bs = part_texts_within (length bs) bs

-- texts joined by dots
abbrev pub dotted : List (List ℕ) → List ℕ
dotted [] = []
dotted (t ∷ []) = t
dotted (t ∷ u ∷ more) = t ++ 46 ∷ dotted (u ∷ more)

abbrev pub last_text : List (List ℕ) → List ℕ
last_text [] = []
last_text (t ∷ []) = t
last_text (t ∷ u ∷ more) = last_text (u ∷ more)

abbrev pub all_but_last : List (List ℕ) → List (List ℕ)
all_but_last [] = []
all_but_last (t ∷ []) = []
all_but_last (t ∷ u ∷ more) = t ∷ all_but_last (u ∷ more)

-- the text of a name: its parts, without quotes, joined by dots
abbrev pub name_text : Source → ℕ → List ℕ
name_text s k = dotted (part_texts (spelling s k))

-- a name in brackets, `[NAME]`, without them
abbrev pub scope_text : Source → ℕ → List ℕ
scope_text s k = dotted (part_texts (between_quotes (spelling s k)))

-- ---- strings

-- the bytes, in UTF-8, of the texts in double quotes that these tokens are, joined
abbrev pub string_bytes : Source → List ℕ → List ℕ
string_bytes s ks = flat_map (λ k. unescaped (between_quotes (spelling s k))) ks

-- a text in UTF-8 as units of UTF-16
abbrev pub units : List ℕ → List ℕ
units bytes = flat_map encode_utf16 (chars bytes)

-- bytes as units of UTF-16, the low byte of each first. A last byte without a partner is followed by a zero byte.
abbrev pub units_of_bytes : List ℕ → List ℕ
units_of_bytes [] = []
units_of_bytes (b ∷ []) = b ∷ []
units_of_bytes (b ∷ c ∷ more) = (b + 256 * c) ∷ units_of_bytes more

-- ---- integers

-- the value of a digit, decimal or hexadecimal
abbrev pub digit_value : ℕ → ℕ
digit_value digit = if nat_le digit 57 then digit - 48 else if nat_le digit 70 then digit - 55 else digit - 87

-- the number that these digits spell in this base
abbrev pub number_by : ℕ → List ℕ → ℕ
number_by base digits = fold (λ value digit. value * base + digit_value digit) 0 digits

-- the number of an integer without its sign: in hexadecimal digits behind `0x`, else in decimal digits
unfoldable pub magnitude : List ℕ → ℕ
magnitude bs = if first_is 48 bs && first_is 120 (drop 1 bs) then number_by 16 (drop 2 bs) else number_by 10 bs

unfoldable pub integer : List ℕ → ℤ
integer bs = if first_is 45 bs then neg_ℤ (pos (magnitude (drop 1 bs))) else pos (magnitude bs)

-- the number that an INT spells
abbrev pub int_at : Source → ℕ → ℤ
int_at s k = integer (spelling s k)

-- ---- bytes

-- the bytes that pairs of hexadecimal digits spell, one pair behind each gap, up to what is no such digit
abbrev pub pair_then : (List ℕ → List ℕ) → List ℕ → List ℕ
pair_then more [] = []
pair_then more (a ∷ []) = []
pair_then more (a ∷ b ∷ bs) = if is_hex a then (16 * digit_value a + digit_value b) ∷ more bs else []

abbrev pub pairs_within : ℕ → List ℕ → List ℕ
pairs_within zero bs = []
pairs_within (suc steps) bs = pair_then (pairs_within steps) (drop (gap bs) bs)

-- the bytes in the parentheses that begin behind the gap at the front
unfoldable pub bytes_in_parentheses : List ℕ → List ℕ
bytes_in_parentheses bs = pairs_within (length bs) (drop (gap bs + 1) bs)

-- the bytes of `= ( .. )`
abbrev pub equals_bytes : Source → ℕ → List ℕ
equals_bytes s k = bytes_in_parentheses (drop 1 (spelling s k))

-- the bytes of `bytearray ( .. )`
abbrev pub array_bytes : Source → ℕ → List ℕ
array_bytes s k = bytes_in_parentheses (drop 9 (spelling s k))

-- the bytes of `( .. )`, which are the bits of a real number
abbrev pub real_bytes : Source → ℕ → List ℕ
real_bytes s k = bytes_in_parentheses (spelling s k)

-- the number that bytes spell, the lowest first
abbrev pub little_number : List ℕ → ℕ
little_number [] = 0
little_number (b ∷ bs) = b + 256 * little_number bs
