-- How a listing spells numbers, and the labels of instructions (ECMA-335 II.5.2, II.5.4).
use Rattle.std.specs.Prelude.{ℕ, zero, suc, ◌-◌, false, true, ℤ, List, [], ◌∷◌, ◌++◌, length, codes}
use Rattle.std.specs.Fmt.{digits, decimal, signed_decimal}

abbrev pub zeros : ℕ → List ℕ
zeros zero = []
zeros (suc n) = 48 ∷ zeros n

-- digits with zeros before them where they are fewer than `width`
abbrev pub at_least : ℕ → List ℕ → List ℕ
at_least width ds = zeros (width - length ds) ++ ds

-- `0x` and at least so many hexadecimal digits, with capital letters
unfoldable pub hexadecimal : ℕ → ℕ → List ℕ
hexadecimal width n = 48 ∷ 120 ∷ at_least width (digits 16 true n)

-- a number in decimal digits, without or with a sign
unfoldable pub natural : ℕ → List ℕ
natural n = decimal n

unfoldable pub integer : ℤ → List ℕ
integer z = signed_decimal z

-- the label of a code offset: `IL_` and at least four hexadecimal digits, with small letters
unfoldable pub label : ℕ → List ℕ
label offset = codes "IL_" ++ at_least 4 (digits 16 false offset)

-- the label of the data with this number, counted from 0
unfoldable pub data_label : ℕ → List ℕ
data_label k = codes "D_" ++ decimal k
