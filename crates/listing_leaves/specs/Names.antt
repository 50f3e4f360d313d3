-- How a listing spells names (ECMA-335 II.5.2, II.5.3).
use Rattle.std.specs.Prelude.{ℕ, ◌==◌, ◌&&◌, ◌||◌, not, Bool, false, if◌then◌else◌, List, [], ◌∷◌, ◌++◌, map, length, codes, bytes_eq, is_some, is_none}
use Rattle.std.specs.List.{list_all, list_any}
use Rattle.il_lexer.specs.Classes.{is_id_start, is_id_part}
use Rattle.il_lexer.specs.WordList.{word_number}
use Rattle.listing_leaves.specs.Texts.{quoted}

-- ---- the parts of a name

abbrev pub longer_first : ℕ → List (List ℕ) → List (List ℕ)
longer_first b [] = (b ∷ []) ∷ []
longer_first b (p ∷ ps) = (b ∷ p) ∷ ps

-- a text split at its dots
abbrev pub pieces : List ℕ → List (List ℕ)
pieces [] = [] ∷ []
pieces (b ∷ bs) = if b == 46 then [] ∷ pieces bs else longer_first b (pieces bs)

abbrev pub is_empty : List ℕ → Bool
is_empty text = length text == 0

-- the parts of a name: its pieces, or the whole where a piece is empty
abbrev pub parts_of : List ℕ → List (List ℕ)
parts_of text = if list_any is_empty (pieces text) then text ∷ [] else pieces text

-- those of a type's name: the parts of its space, if it has one, and its name as one part
abbrev pub type_parts : List ℕ → List ℕ → List (List ℕ)
type_parts space name = (if is_empty space then [] else parts_of space) ++ name ∷ []

-- ---- their spelling

abbrev pub is_id : List ℕ → Bool
is_id [] = false
is_id (b ∷ bs) = is_id_start b && list_all is_id_part bs

-- the words that brackets make a word of
abbrev pub is_bracketed : List ℕ → Bool
is_bracketed text = bytes_eq text (codes "in") || bytes_eq text (codes "out") || bytes_eq text (codes "opt")

-- a part that needs no quotes: an identifier that is neither reserved nor one of these
abbrev pub is_bare : List ℕ → Bool
is_bare text = is_id text && is_none (word_number text) && not (is_bracketed text)

abbrev pub part : List ℕ → List ℕ
part text = if is_bare text then text else quoted 39 text

-- texts joined by dots
abbrev pub joined : List (List ℕ) → List ℕ
joined [] = []
joined (t ∷ []) = t
joined (t ∷ u ∷ more) = t ++ 46 ∷ joined (u ∷ more)

-- the parts, the last of them in quotes whatever it is
abbrev pub last_quoted : List (List ℕ) → List (List ℕ)
last_quoted [] = []
last_quoted (t ∷ []) = quoted 39 t ∷ []
last_quoted (t ∷ u ∷ more) = part t ∷ last_quoted (u ∷ more)

-- the spelling of a name that has these parts; where the parts together would be a reserved word, the last is in quotes
unfoldable pub spelled : List (List ℕ) → List ℕ
spelled ps = if is_some (word_number (joined (map part ps))) then joined (last_quoted ps) else joined (map part ps)

-- a name, a type's name, and a name in brackets
unfoldable pub name : List ℕ → List ℕ
name text = spelled (parts_of text)

unfoldable pub type_name : List ℕ → List ℕ → List ℕ
type_name space text = spelled (type_parts space text)

unfoldable pub scope : List ℕ → List ℕ
scope text = 91 ∷ (name text ++ 93 ∷ [])
