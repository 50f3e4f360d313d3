-- Gaps: blanks and comments (II.5.2).
use Rattle.std.specs.Prelude.{ℕ, ◌+◌, Bool, not, ◌==◌, ◌&&◌, if◌then◌else◌, List, [], ◌∷◌, drop, Option, None, Some}
use Rattle.std.specs.Option.{option_map}
use Rattle.il_lexer.specs.Classes.{is_blank, first_is}
use Rattle.il_lexer.specs.Runs.{front, run_of}

-- the end of a comment is at the front
abbrev pub is_close : List ℕ → Bool
is_close bs = first_is 42 bs && first_is 47 (drop 1 bs)

-- the bytes up to and with the next `*/`
abbrev pub block_length : List ℕ → Option ℕ
block_length [] = None
block_length (b ∷ bs) = if is_close (b ∷ bs) then Some 2 else option_map (λ n. 1 + n) (block_length bs)

-- the rest of a comment after its `/`: to the end of the line, or to the next `*/`
abbrev pub comment_length : List ℕ → Option ℕ
comment_length [] = None
comment_length (b ∷ bs) =
    if b == 47 then Some (1 + front (λ c. not (c == 10)) bs)
    else if b == 42 then option_map (λ n. 1 + n) (block_length bs)
    else None

-- a blank or a comment
abbrev pub gap_piece : List ℕ → Option ℕ
gap_piece [] = None
gap_piece (b ∷ bs) =
    if is_blank b then Some 1 else if b == 47 then option_map (λ n. 1 + n) (comment_length bs) else None

-- the bytes of the gap at the front, which may be none
abbrev pub gap : List ℕ → ℕ
gap bs = (run_of gap_piece bs).bytes
