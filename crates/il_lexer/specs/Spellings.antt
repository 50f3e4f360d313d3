-- How far the spellings go that begin at the front of some bytes (II.5.2 to II.5.4).
use Rattle.std.specs.Prelude.{ℕ, ◌+◌, Bool, false, not, ◌==◌, nat_lt, ◌&&◌, ◌||◌, if◌then◌else◌, List, [], ◌∷◌, drop, Option, None, Some}
use Rattle.std.specs.Option.{option_map}
use Rattle.il_lexer.specs.Classes.{is_digit, is_hex, is_id_start, is_id_part, first_is, first_passes}
use Rattle.il_lexer.specs.Runs.{front, run_of}
use Rattle.il_lexer.specs.declared.pairs.Pairs.{Pairs}
use Rattle.il_lexer.specs.Gaps.{gap}
use Rattle.il_lexer.specs.Quotes.{line_end, quoted_length}

-- an identifier
abbrev pub id_length : List ℕ → Option ℕ
id_length [] = None
id_length (b ∷ bs) = if is_id_start b then Some (1 + front is_id_part bs) else None

-- a backslash and a line's end, which give nothing
abbrev pub empty_piece : List ℕ → Option ℕ
empty_piece [] = None
empty_piece (b ∷ bs) = if b == 92 then option_map (λ n. 1 + n) (line_end bs) else None

-- after an opening `'`: the text up to the closing one is empty
abbrev pub is_empty_quote : List ℕ → Bool
is_empty_quote bs = first_is 39 (drop (run_of empty_piece bs).bytes bs)

-- after an opening `'`: a text in single quotes that isn't empty, with both quotes
abbrev pub quoted_part : List ℕ → Option ℕ
quoted_part bs = if is_empty_quote bs then None else option_map (λ n. 1 + n) (quoted_length 39 bs)

-- a part of a name: an identifier, or a text in single quotes that isn't empty
abbrev pub part_length : List ℕ → Option ℕ
part_length [] = None
part_length (b ∷ bs) =
    if b == 39 then quoted_part bs else id_length (b ∷ bs)

-- a dot and a part
abbrev pub dotted_part : List ℕ → Option ℕ
dotted_part [] = None
dotted_part (b ∷ bs) = if b == 46 then option_map (λ n. 1 + n) (part_length bs) else None

-- a name: parts joined by single dots
abbrev pub name_length : List ℕ → Option ℕ
name_length bs = option_map (λ n. n + (run_of dotted_part (drop n bs)).bytes) (part_length bs)

-- after `e` or `E`: an optional sign and a digit
abbrev pub is_exponent : List ℕ → Bool
is_exponent [] = false
is_exponent (b ∷ bs) = is_digit b || ((b == 43 || b == 45) && first_passes is_digit bs)

-- what bars the decimal digits before it from being an integer: a dot that no second dot follows, or an exponent
abbrev pub is_barred : List ℕ → Bool
is_barred [] = false
is_barred (b ∷ bs) = if b == 46 then not (first_is 46 bs) else (b == 101 || b == 69) && is_exponent bs

-- after `0`: `x` and hexadecimal digits
abbrev pub hex_length : List ℕ → Option ℕ
hex_length [] = None
hex_length (b ∷ bs) = if b == 120 && first_passes is_hex bs then Some (1 + front is_hex bs) else None

-- an integer without its sign: all the decimal digits at the front, or `0x` and hexadecimal digits
abbrev pub decimal_length : List ℕ → Option ℕ
decimal_length bs = let n = front is_digit bs in if nat_lt 0 n && not (is_barred (drop n bs)) then Some n else None

abbrev pub or_else : Option ℕ → Option ℕ → Option ℕ
or_else (Some n) other = Some n
or_else None other = other

abbrev pub int_length : List ℕ → Option ℕ
int_length bs =
    or_else (if first_is 48 bs then option_map (λ n. 1 + n) (hex_length (drop 1 bs)) else None) (decimal_length bs)

-- a pair of hexadecimal digits and the gap after it, which only before `)` may be nothing
abbrev pub pair_piece : List ℕ → Option ℕ
pair_piece (a ∷ b ∷ bs) =
    let g = gap bs in if is_hex a && is_hex b && (nat_lt 0 g || first_is 41 (drop g bs)) then Some (2 + g) else None
pair_piece _ = None

-- bytes in parentheses, after the `(`: their length up to and with the `)`, and their number
abbrev pub pairs_in : List ℕ → Option Pairs
pairs_in bs =
    let g = gap bs in
    let r = run_of pair_piece (drop g bs) in
    if first_is 41 (drop (g + r.bytes) bs) then Some (record { bytes = g + r.bytes + 1; count = r.pieces }) else None

-- a gap, and bytes in parentheses
abbrev pub bytes_length : List ℕ → Option ℕ
bytes_length bs =
    let g = gap bs in
    if first_is 40 (drop g bs) then option_map (λ p. g + 1 + p.bytes) (pairs_in (drop (g + 1) bs)) else None
