-- The parts of a name, and the last of them.
use Rattle.std.specs.Prelude.{◌≡◌, ℕ, suc, ◌==◌, ◌<◌, length, take, drop, slice_index, Bool, true, false, if◌then◌else◌, List, [], ◌∷◌, ◌++◌, is_some}
use Rattle.il_lexer.specs.WordList.{word_number}
use Rattle.listing_leaves.specs.Names.{part, pieces, parts_of, is_empty}
use Rattle.listing_leaves.specs.Texts.{quoted}

-- the spelling of the parts before the last, each with its dot
abbrev pub fronts : List (List ℕ) → List ℕ
fronts [] = []
fronts (t ∷ []) = []
fronts (t ∷ u ∷ more) = part t ++ 46 ∷ fronts (u ∷ more)

abbrev pub last_part : List (List ℕ) → List ℕ
last_part [] = []
last_part (t ∷ []) = t
last_part (t ∷ u ∷ more) = last_part (u ∷ more)

-- the spelling of the last part behind these bytes: in quotes where the name would be a reserved word
abbrev pub ending : List ℕ → List ℕ → List ℕ
ending before text = if is_some (word_number (before ++ part text)) then quoted 39 text else part text

-- the space of a type's name and a dot, where it has one
abbrev pub space_front : List ℕ → List ℕ
space_front space = if is_empty space then [] else fronts (parts_of space) ++ (part (last_part (parts_of space)) ++ 46 ∷ [])

-- the bytes have an empty piece; `is_new` says that a piece begins with them
abbrev pub any_empty : Bool → List ℕ → Bool
any_empty is_new [] = is_new
any_empty is_new (b ∷ bs) = if b == 46 then (if is_new then true else any_empty true bs) else any_empty false bs

-- the first dot stands there
pub record IsFirstDot (text : List ℕ) (k : ℕ) : Type 0 where
  pub within : k < length text
  pub dot : slice_index text k ≡ 46
  pub parts : pieces text ≡ take k text ∷ pieces (drop (suc k) text)
