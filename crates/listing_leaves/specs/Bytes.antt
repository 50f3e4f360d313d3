-- How a listing spells bytes (ECMA-335 II.5.2, II.16.3).
use Rattle.std.specs.Prelude.{ℕ, ◌/◌, ◌%◌, true, List, [], ◌∷◌, ◌++◌, codes}
use Rattle.std.specs.Fmt.{digit_glyph}

-- a byte: two hexadecimal digits, with capital letters
abbrev pub pair : ℕ → List ℕ
pair b = digit_glyph true (b / 16) ∷ digit_glyph true (b % 16) ∷ []

-- a blank between each byte and the next
abbrev pub pairs : List ℕ → List ℕ
pairs [] = []
pairs (b ∷ []) = pair b
pairs (b ∷ c ∷ more) = pair b ++ 32 ∷ pairs (c ∷ more)

abbrev pub parenthesized : List ℕ → List ℕ
parenthesized bytes = 40 ∷ (pairs bytes ++ 41 ∷ [])

-- `= (01 0A)`
unfoldable pub equals_bytes : List ℕ → List ℕ
equals_bytes bytes = 61 ∷ 32 ∷ parenthesized bytes

-- `bytearray (01 0A)`
unfoldable pub byte_array : List ℕ → List ℕ
byte_array bytes = codes "bytearray" ++ 32 ∷ parenthesized bytes
