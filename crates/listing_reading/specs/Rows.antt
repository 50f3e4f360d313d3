-- The parts of rows in a listing.
use Rattle.std.specs.Prelude.{ℕ, suc, ◌+◌, ◌≡◌, true, false, List, [], ◌∷◌, ⊤}
use Rattle.source_model.specs.Forest as f
use Rattle.source_model.specs.Items.{is_custom}
use Rattle.listing_model.specs.Shown.{Item, size, behind_comma}
use Rattle.listing_reading.specs.Numbered.{numbered}

-- each of a row is one of these productions
abbrev pub AreAmong : List ℕ → List Item → Type 0
AreAmong sought [] = ⊤
AreAmong sought (i ∷ is) = (f.is_among sought i.production ≡ true) × AreAmong sought is

-- the items of a row as parts, the first token being the one with this number
abbrev pub parts_at : ℕ → List Item → List f.Part
parts_at at [] = []
parts_at at (i ∷ is) = f.part i.production (numbered at i.below) ∷ parts_at (at + size i.below) is

-- the same where a comma stands before each
abbrev pub parts_behind : ℕ → List Item → List f.Part
parts_behind at [] = []
parts_behind at (i ∷ is) = f.part i.production (numbered (suc at) i.below) ∷ parts_behind (at + size (behind_comma 0 i).below) is

-- what is no attribute, if anything
abbrev pub IsEndOfRun : List f.Part → Type 0
IsEndOfRun [] = ⊤
IsEndOfRun (p ∷ ps) = is_custom p ≡ false
