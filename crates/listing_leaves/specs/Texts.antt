-- How a listing spells texts in quotes (ECMA-335 II.5.2).
use Rattle.std.specs.Prelude.{ℕ, ◌+◌, ◌/◌, ◌%◌, ◌==◌, ◌&&◌, ◌||◌, nat_le, Bool, if◌then◌else◌, List, [], ◌∷◌, ◌++◌}
use Rattle.std.specs.List.{flat_map, list_all}

-- the bytes 01 to 1F and 7F
abbrev pub is_control : ℕ → Bool
is_control b = (nat_le 1 b && nat_le b 31) || b == 127

-- a backslash and three octal digits
abbrev pub octal : ℕ → List ℕ
octal b = 92 ∷ (48 + b / 64) ∷ (48 + b / 8 % 8) ∷ (48 + b % 8) ∷ []

-- A byte between the quotes `q`: a backslash and such a quote behind a backslash, 01 to 1F and 7F in octal, any other as it is.
abbrev pub escaped : ℕ → ℕ → List ℕ
escaped q b = if b == 92 || b == q then 92 ∷ b ∷ [] else if is_control b then octal b else b ∷ []

-- a text between the quotes `q`
unfoldable pub quoted : ℕ → List ℕ → List ℕ
quoted q text = q ∷ (flat_map (escaped q) text ++ q ∷ [])

-- ---- strings of UTF-16 units

-- the units 20 to 7E, 09 and 0A
abbrev pub is_simple : ℕ → Bool
is_simple u = (nat_le 32 u && nat_le u 126) || u == 9 || u == 10

-- a string is spelled in double quotes where all its units are such, and else by its bytes
abbrev pub is_simple_string : List ℕ → Bool
is_simple_string units = list_all is_simple units

-- such a unit: `\"`, `\\`, `\t` and `\n` by an escape, any other as it is
abbrev pub escaped_unit : ℕ → List ℕ
escaped_unit u =
    if u == 34 || u == 92 then 92 ∷ u ∷ [] else if u == 9 then 92 ∷ 116 ∷ [] else if u == 10 then 92 ∷ 110 ∷ [] else u ∷ []

unfoldable pub quoted_units : List ℕ → List ℕ
quoted_units units = 34 ∷ (flat_map escaped_unit units ++ 34 ∷ [])

-- the bytes of units, the low byte of each first
abbrev pub unit_bytes : List ℕ → List ℕ
unit_bytes units = flat_map (λ u. (u % 256) ∷ (u / 256) ∷ []) units
