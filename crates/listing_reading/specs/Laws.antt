-- What holds of the forest of any piece of a listing.
use Rattle.std.specs.Prelude.{ℕ, suc, ◌+◌, ◌≡◌, ◌<◌, Bool, true, false, List, [], ◌∷◌, ◌++◌, map, take, drop, bytes_eq, position, slice_get, Some}
use Rattle.std.specs.List.{list_all}
use Rattle.il_lexer.specs.Unplaced.{spelling_in}
use Rattle.ilasm_grammar.specs.declared.symbol.Symbol.{Symbol}
use Rattle.source_model.specs.Forest as f
use Rattle.source_model.specs.Items.{is_custom, begins_run, runs, customs_outside}
use Rattle.source_model.specs.Source.{Source}
use Rattle.assembly_tree.specs.WellFormedNames.{all_differ}
use Rattle.listing_model.specs.Grown.{Grows, nodes}
use Rattle.listing_model.specs.Shown.{Shown, leaves, size, Item, star_production, star_below, behind_comma}
use Rattle.listing_reading.specs.Below.{cant_stand, cant_lead}
use Rattle.listing_reading.specs.Numbered.{numbered, leaf_spelling, Agrees, rest, place}
use Rattle.listing_reading.specs.Rows.{AreAmong, parts_at, parts_behind, IsEndOfRun}

-- The forest of a piece: its nodes in preorder, and its last token; and a source whose tokens are spelled as its leaves has it.
pub record ForestsAgree : Type 0 where
  pub nodes : (at : ℕ) (g : Shown) → f.preorder (numbered at g) ≡ nodes at g
  pub tokens : (s : Source) (g : Shown) → map (spelling_in s.bytes) s.tokens ≡ map leaf_spelling (leaves g) → Agrees s 0 g
  pub last : (at : ℕ) (g : Shown) → 0 < size g → suc (f.last_token (numbered at g)) ≡ at + size g

-- What grows from symbols in which productions can't stand has no part of them. A search goes on past the first trees of a piece
-- where what is sought can't stand in them, or can't lead them.
pub record SearchesPass : Type 0 where
  pub nothing : (sought : List ℕ) (symbols : List Symbol) → cant_stand sought symbols ≡ true → (g : Shown) → Grows symbols g → (at : ℕ) →
      f.parts sought (numbered at g) ≡ []
  pub parts : (sought : List ℕ) (k : ℕ) (symbols : List Symbol) → cant_stand sought (take k symbols) ≡ true → (g : Shown) → Grows symbols g → (at : ℕ) →
      f.parts sought (numbered at g) ≡ f.parts sought (numbered (place k at g) (rest k g))
  pub child : (sought : List ℕ) (k : ℕ) (symbols : List Symbol) → cant_lead sought (take k symbols) ≡ true → (g : Shown) → Grows symbols g → (at : ℕ) →
      f.child sought (numbered at g) ≡ f.child sought (numbered (place k at g) (rest k g))
  pub rest : (k : ℕ) (symbols : List Symbol) (g : Shown) → Grows symbols g → Grows (drop k symbols) (rest k g)

-- The parts of a row are its items, in order, where its own productions aren't sought and its items are.
pub record RowsAreRead : Type 0 where
  pub star : (sought : List ℕ) (more end : ℕ) → f.is_among sought more ≡ false → f.is_among sought end ≡ false → (items : List Item) →
      AreAmong sought items → (at : ℕ) (after : f.Forest) →
      f.parts sought (f.branch (star_production more end items) (numbered at (star_below more end items)) after) ≡ parts_at at items ++ f.parts sought after

-- The same where a comma stands before each item.
abbrev pub CommasAreRead : Type 0
CommasAreRead =
    (sought : List ℕ) (more end comma : ℕ) → f.is_among sought more ≡ false → f.is_among sought end ≡ false → f.is_among sought comma ≡ false →
    (items : List Item) → AreAmong sought items → (at : ℕ) (after : f.Forest) →
    f.parts sought (f.branch (star_production more end (map (behind_comma comma) items)) (numbered at (star_below more end (map (behind_comma comma) items))) after)
    ≡ parts_behind at items ++ f.parts sought after

-- Attributes directly behind what they can belong to are its attributes, and any others belong to what surrounds them.
pub record RunsAreRead : Type 0 where
  pub run : (head : f.Part) (customs after : List f.Part) → list_all is_custom customs ≡ true → IsEndOfRun after →
      runs (head ∷ (customs ++ after)) ≡ record { head = head; customs = customs } ∷ runs (customs ++ after)
  pub inside : (customs after : List f.Part) → list_all is_custom customs ≡ true → customs_outside true (customs ++ after) ≡ customs_outside true after
  pub outside : (customs after : List f.Part) → list_all is_custom customs ≡ true →
      customs_outside false (customs ++ after) ≡ customs ++ customs_outside false after
  pub head : (in_run : Bool) (first : f.Part) (after : List f.Part) → is_custom first ≡ false →
      customs_outside in_run (first ∷ after) ≡ customs_outside (begins_run first) after

-- In a list whose texts are all different the first that is equal to one of them stands at its place.
abbrev pub FirstIsThere : Type 0
FirstIsThere =
    (texts : List (List ℕ)) → all_differ bytes_eq texts ≡ true → (k : ℕ) (text : List ℕ) → slice_get texts k ≡ Some text →
    position (λ other. bytes_eq other text) texts ≡ Some k
