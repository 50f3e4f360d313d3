-- Segments of a row in a listing, and rows with commas.
use Rattle.std.specs.Prelude.{ℕ, suc, ◌+◌, ◌≡◌, true, false, if◌then◌else◌, List, [], ◌∷◌, ◌++◌, Some, ⊤}
use Rattle.source_model.specs.Forest as f
use Rattle.source_model.specs.Source.{Source}
use Rattle.listing_model.specs.Grown.{head_of, body_of, Grows}
use Rattle.listing_model.specs.Shown.{Item, size, behind_comma}
use Rattle.listing_reading.specs.Below.{cant_stand}
use Rattle.listing_reading.specs.Numbered.{numbered, Agrees}
use Rattle.listing_reading.specs.Rows.{parts_behind}

-- the number of the first token behind the items of a row
abbrev pub end_of : ℕ → List Item → ℕ
end_of at [] = at
end_of at (i ∷ is) = end_of (at + size i.below) is

-- the tokens from this one on are those of the items
abbrev pub ItemsAgree : Source → ℕ → List Item → Type 0
ItemsAgree s at [] = ⊤
ItemsAgree s at (i ∷ is) = Agrees s at i.below × ItemsAgree s (at + size i.below) is

-- the same where a comma stands before each
abbrev pub BehindAgree : Source → ℕ → List Item → Type 0
BehindAgree s at [] = ⊤
BehindAgree s at (i ∷ is) = Agrees s (suc at) i.below × BehindAgree s (at + size (behind_comma 0 i).below) is

-- the same where a comma stands between each and the next
abbrev pub CommasAgree : Source → ℕ → List Item → Type 0
CommasAgree s at [] = ⊤
CommasAgree s at (i ∷ is) = Agrees s at i.below × BehindAgree s (at + size i.below) is

-- the parts of a row with commas
abbrev pub comma_parts : ℕ → List Item → List f.Part
comma_parts at [] = []
comma_parts at (i ∷ is) = f.part i.production (numbered at i.below) ∷ parts_behind (at + size i.below) is

-- ---- what is sought in items

-- the parts that are sought in a row: items themselves, or what stands in them
abbrev pub pieces_of : List ℕ → ℕ → Item → List f.Part
pieces_of sought at i = if f.is_among sought i.production then f.part i.production (numbered at i.below) ∷ [] else f.parts sought (numbered at i.below)

abbrev pub pieces_at : List ℕ → ℕ → List Item → List f.Part
pieces_at sought at [] = []
pieces_at sought at (i ∷ is) = pieces_of sought at i ++ pieces_at sought (at + size i.below) is

-- each of a row is of a production of the nonterminal, and stands over its body
abbrev pub EachGrown : ℕ → List Item → Type 0
EachGrown x [] = ⊤
EachGrown x (i ∷ is) = (head_of i.production ≡ Some x) × Grows (body_of i.production) i.below × EachGrown x is

-- none is of one of these productions, and none can hold one
abbrev pub EachLacks : List ℕ → List Item → Type 0
EachLacks sought [] = ⊤
EachLacks sought (i ∷ is) = (f.is_among sought i.production ≡ false) × (cant_stand sought (body_of i.production) ≡ true) × EachLacks sought is
