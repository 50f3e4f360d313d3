-- A derivation whose leaves carry the spellings of their tokens.
use Rattle.std.specs.Prelude.{ℕ, suc, ◌+◌, Bool, true, false, List, [], ◌∷◌, ◌++◌, map, slice_index_or, Option, None, Some}
use Rattle.il_lexer.specs.WordList.{words}
use Rattle.il_lexer.specs.declared.types.TokenKind.{TokenKind}
use Rattle.il_lexer.specs.declared.types.TokenKind.TheVariants as kind
use Rattle.il_lexer.specs.declared.word.TheConstants as word

-- A token of a listing: its kind and its spelling, whether it begins a line, and whether it is a `[` that stands apart from what is
-- before it.
pub record Leaf : Type 0 where
  pub starts : Bool
  pub apart : Bool
  pub kind : TokenKind
  pub text : List ℕ

-- Trees one after another: a leaf, or a production with what stands below it; and in either case what stands after.
pub data Shown : Type 0 where
  none : Shown
  leaf : (l : Leaf) (after : Shown) → Shown
  branch : (production : ℕ) (below after : Shown) → Shown

-- its leaves, from left to right, and their number
abbrev pub leaves : Shown → List Leaf
leaves none = []
leaves (leaf l after) = l ∷ leaves after
leaves (branch p below after) = leaves below ++ leaves after

abbrev pub size : Shown → ℕ
size none = 0
size (leaf l after) = suc (size after)
size (branch p below after) = size below + size after

-- ---- leaves

-- a token within a line
abbrev pub token : TokenKind → List ℕ → Shown → Shown
token k text after = leaf (record { starts = false; apart = false; kind = k; text = text }) after

abbrev pub word_text : ℕ → List ℕ
word_text k = slice_index_or words k []

-- the word with this number: within a line, at the begin of one, and a `[` that stands apart
abbrev pub w : ℕ → Shown → Shown
w k after = token (kind.Word k) (word_text k) after

abbrev pub line : ℕ → Shown → Shown
line k after = leaf (record { starts = true; apart = false; kind = kind.Word k; text = word_text k }) after

abbrev pub bracket : Shown → Shown
bracket after =
    leaf (record { starts = false; apart = true; kind = kind.Word word.OPEN_BRACKET; text = word_text word.OPEN_BRACKET }) after

-- ---- productions

-- one production with what stands below it
pub record Item : Type 0 where
  pub production : ℕ
  pub below : Shown

abbrev pub item : ℕ → Shown → Item
item production below = record { production = production; below = below }

abbrev pub put : Item → Shown → Shown
put i after = branch i.production i.below after

-- ---- `X?`

abbrev pub opt_production : ℕ → ℕ → Option Shown → ℕ
opt_production some nothing None = nothing
opt_production some nothing (Some g) = some

abbrev pub opt_below : Option Shown → Shown
opt_below None = none
opt_below (Some g) = g

abbrev pub optional : ℕ → ℕ → Option Shown → Shown → Shown
optional some nothing x after = branch (opt_production some nothing x) (opt_below x) after

-- what is there under a condition
abbrev pub when : Bool → Shown → Option Shown
when true g = Some g
when false g = None

-- ---- `X*`

abbrev pub star_production : ℕ → ℕ → List Item → ℕ
star_production more end [] = end
star_production more end (i ∷ is) = more

abbrev pub star_below : ℕ → ℕ → List Item → Shown
star_below more end [] = none
star_below more end (i ∷ is) = branch i.production i.below (branch (star_production more end is) (star_below more end is) none)

abbrev pub star : ℕ → ℕ → List Item → Shown → Shown
star more end items after = branch (star_production more end items) (star_below more end items) after

-- ---- `X ( , X )*`

-- a comma and one more, below this production
abbrev pub behind_comma : ℕ → Item → Item
behind_comma comma i = item comma (w word.COMMA (put i none))

-- the first, and each other behind a comma; nothing where there is none
abbrev pub commas : ℕ → ℕ → ℕ → List Item → Shown → Shown
commas more end comma [] after = after
commas more end comma (i ∷ is) after = put i (star more end (map (behind_comma comma) is) after)
