-- The gap at a place is the longest run of blanks and comments there (II.5.2).
use Rattle.std.specs.Prelude.{ℕ, ◌≡◌, ◌≤◌, ◌⊎◌, List, [], ◌∷◌, ◌++◌, length, take, drop}
use Rattle.il_lexer.specs.Gaps.{gap}
use Rattle.il_lexer.specs.Spelled.{Each, IsGap, is_no_line_feed}

-- a comment that runs to the end of the source
abbrev pub IsLastComment : List ℕ → Type 0
IsLastComment w = (text : List ℕ) × Each is_no_line_feed text × (w ≡ 47 ∷ 47 ∷ text)

-- A run of blanks and comments before the rest. A comment from `//` runs to a line feed, or to the end of the source.
abbrev pub IsGapBefore : List ℕ → List ℕ → Type 0
IsGapBefore w after =
    IsGap w
    ⊎ ((lead : List ℕ) × (last : List ℕ) × IsGap lead × IsLastComment last × (w ≡ lead ++ last) × (after ≡ []))

-- `gap` is one, and none is longer
pub record GapIsLongest : Type 0 where
  pub stands : (bs : List ℕ) → IsGapBefore (take (gap bs) bs) (drop (gap bs) bs)
  pub longest : (w after : List ℕ) → IsGapBefore w after → length w ≤ gap (w ++ after)
