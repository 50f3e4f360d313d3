-- What holds of rows in a listing, and of what is collected from its pieces.
use Rattle.std.specs.Prelude.{ℕ, ◌≡◌, Bool, true, false, List, [], ◌∷◌, ◌++◌, filter, take, Option, ⊤}
use Rattle.std.specs.List.{list_all}
use Rattle.ilasm_grammar.specs.declared.productions.TheConstants as p
use Rattle.ilasm_grammar.specs.declared.symbol.Symbol.{Symbol}
use Rattle.ilasm_grammar.specs.declared.symbol.Symbol.TheVariants.{Nonterminal}
use Rattle.source_model.specs.Classes.{classes_in}
use Rattle.source_model.specs.Clauses.{clause_forms, guarded_in}
use Rattle.source_model.specs.Forest as f
use Rattle.source_model.specs.Items.{plain_items, items_and_ends, is_custom, begins_run, Run, runs, customs_outside}
use Rattle.source_model.specs.Nodes.{Around}
use Rattle.source_model.specs.Source.{Source}
use Rattle.source_model.specs.Types.{types_in, owners_in}
use Rattle.listing_model.specs.Grown.{body_of, Grows}
use Rattle.listing_model.specs.Shown.{Shown, Item, opt_production, opt_below, star_production, star_below, commas}
use Rattle.listing_reading.specs.Below.{cant_stand}
use Rattle.listing_reading.specs.Numbered.{numbered, Agrees, rest, place}
use Rattle.listing_reading.specs.Rows.{AreAmong, parts_at, IsEndOfRun}
use Rattle.listing_rows.specs.Segments.{end_of, ItemsAgree, CommasAgree, comma_parts, pieces_at, EachGrown, EachLacks}

-- A row agrees item by item, and segment by segment; its parts are those of its segments. With commas it agrees and has its parts the
-- same way, with anything behind it that holds nothing of what is sought.
pub record SegmentsAreRead : Type 0 where
  pub row : (s : Source) (more end : ℕ) (items : List Item) (at : ℕ) → Agrees s at (star_below more end items) → ItemsAgree s at items
  pub agree : (s : Source) (at : ℕ) (xs ys : List Item) → ItemsAgree s at (xs ++ ys) → ItemsAgree s at xs × ItemsAgree s (end_of at xs) ys
  pub parts : (at : ℕ) (xs ys : List Item) → parts_at at (xs ++ ys) ≡ parts_at at xs ++ parts_at (end_of at xs) ys
  pub among : (sought : List ℕ) (xs ys : List Item) → AreAmong sought xs → AreAmong sought ys → AreAmong sought (xs ++ ys)
  pub commas_agree : (s : Source) (more end comma : ℕ) (items : List Item) (at : ℕ) (after : Shown) → Agrees s at (commas more end comma items after) →
      CommasAgree s at items
  pub commas : (sought : List ℕ) (more end comma : ℕ) → f.is_among sought more ≡ false → f.is_among sought end ≡ false → f.is_among sought comma ≡ false →
      (items : List Item) → AreAmong sought items → (at : ℕ) (after : Shown) → ((k : ℕ) → f.parts sought (numbered k after) ≡ []) →
      f.parts sought (numbered at (commas more end comma items after)) ≡ comma_parts at items

-- What is sought in a row is sought in each item; where items are what is sought they are the parts, and where they can't hold it there
-- is none. A row that has grown has grown items.
pub record PiecesAreRead : Type 0 where
  pub row : (sought : List ℕ) (more end : ℕ) → f.is_among sought more ≡ false → f.is_among sought end ≡ false → (items : List Item) (at : ℕ) (after : f.Forest) →
      f.parts sought (f.branch (star_production more end items) (numbered at (star_below more end items)) after) ≡ pieces_at sought at items ++ f.parts sought after
  pub joined : (sought : List ℕ) (at : ℕ) (xs ys : List Item) → pieces_at sought at (xs ++ ys) ≡ pieces_at sought at xs ++ pieces_at sought (end_of at xs) ys
  pub all : (sought : List ℕ) (at : ℕ) (xs : List Item) → AreAmong sought xs → pieces_at sought at xs ≡ parts_at at xs
  pub none : (sought : List ℕ) (x at : ℕ) (xs : List Item) → EachGrown x xs → EachLacks sought xs → pieces_at sought at xs ≡ []
  pub grown : (x n more end : ℕ) → body_of more ≡ Nonterminal x ∷ Nonterminal n ∷ [] → (items : List Item) →
      Grows (body_of (star_production more end items)) (star_below more end items) → EachGrown x items
  pub each : (x : ℕ) (xs ys : List Item) → EachGrown x (xs ++ ys) → EachGrown x xs × EachGrown x ys
  pub lack : (sought : List ℕ) (xs ys : List Item) → EachLacks sought xs → EachLacks sought ys → EachLacks sought (xs ++ ys)

-- What stands below what may be there, or below a row, where nothing behind it is sought; both are nothing where there is nothing.
pub record OptionsAreRead : Type 0 where
  pub option : (some nothing : ℕ) → f.is_among (some ∷ []) some ≡ true → f.is_among (some ∷ []) nothing ≡ false → (x : Option Shown) (at : ℕ) (after : f.Forest) →
      f.child (some ∷ []) after ≡ f.none → f.child (some ∷ []) (f.branch (opt_production some nothing x) (numbered at (opt_below x)) after) ≡ numbered at (opt_below x)
  pub row : (more end : ℕ) → f.is_among (more ∷ []) more ≡ true → f.is_among (more ∷ []) end ≡ false → (items : List Item) (at : ℕ) (after : f.Forest) →
      f.child (more ∷ []) after ≡ f.none → f.child (more ∷ []) (f.branch (star_production more end items) (numbered at (star_below more end items)) after) ≡ numbered at (star_below more end items)

abbrev pub type_parts : List ℕ
type_parts = p.TYPE ∷ []

abbrev pub owner_parts : List ℕ
owner_parts = p.SPEC_TYPE_NAME ∷ p.SPEC_TYPE ∷ []

abbrev pub item_parts : List ℕ
item_parts = p.ITEM_TRY ∷ p.BLOCK ∷ plain_items

abbrev pub class_parts : List ℕ
class_parts = p.CLASS ∷ []

-- What is collected from a forest is collected past its first trees, where none of it can stand in these; and none is where none of its
-- parts is.
pub record WalksPass : Type 0 where
  pub types : (s : Source) (a : Around) (k : ℕ) (symbols : List Symbol) → cant_stand type_parts (take k symbols) ≡ true → (g : Shown) → Grows symbols g → (at : ℕ) →
      types_in s a (numbered at g) ≡ types_in s a (numbered (place k at g) (rest k g))
  pub owners : (s : Source) (a : Around) (k : ℕ) (symbols : List Symbol) → cant_stand owner_parts (take k symbols) ≡ true → (g : Shown) → Grows symbols g → (at : ℕ) →
      owners_in s a (numbered at g) ≡ owners_in s a (numbered (place k at g) (rest k g))
  pub items : (k : ℕ) (symbols : List Symbol) → cant_stand item_parts (take k symbols) ≡ true → (g : Shown) → Grows symbols g → (at : ℕ) →
      items_and_ends (numbered at g) ≡ items_and_ends (numbered (place k at g) (rest k g))
  pub clauses : (tried : f.Forest) (k : ℕ) (symbols : List Symbol) → cant_stand clause_forms (take k symbols) ≡ true → (g : Shown) → Grows symbols g → (at : ℕ) →
      guarded_in tried (numbered at g) ≡ guarded_in tried (numbered (place k at g) (rest k g))
  pub classes : (s : Source) (a : Around) (k : ℕ) (symbols : List Symbol) → cant_stand class_parts (take k symbols) ≡ true → (g : Shown) → Grows symbols g → (at : ℕ) →
      classes_in s a (numbered at g) ≡ classes_in s a (numbered (place k at g) (rest k g))
  pub no_owners : (s : Source) (a : Around) (g : f.Forest) → f.parts owner_parts g ≡ [] → owners_in s a g ≡ []
  pub no_items : (g : f.Forest) → f.parts item_parts g ≡ [] → items_and_ends g ≡ []
  pub no_clauses : (tried g : f.Forest) → f.parts clause_forms g ≡ [] → guarded_in tried g ≡ []
  pub no_classes : (s : Source) (a : Around) (g : f.Forest) → f.parts class_parts g ≡ [] → classes_in s a g ≡ []

-- ---- declarations with the attributes behind them

-- those whose heads pass
abbrev pub runs_of : (f.Part → Bool) → List f.Part → List Run
runs_of test ps = filter (λ r. test r.head) (runs ps)

-- none of these passes
abbrev pub NonePass : (f.Part → Bool) → List f.Part → Type 0
NonePass test [] = ⊤
NonePass test (p ∷ ps) = (test p ≡ false) × NonePass test ps

-- whatever stands before, no attribute among these belongs to what surrounds them
abbrev pub AllOwned : List f.Part → Type 0
AllOwned ps = (b : Bool) → customs_outside b ps ≡ []

-- Declarations that don't pass are passed over, with what follows them; one that passes has the attributes directly behind it.
-- Attributes behind a head belong to it where it begins a run.
pub record RunsAreFiltered : Type 0 where
  pub past : (test : f.Part → Bool) (xs ys : List f.Part) → NonePass test xs → runs_of test (xs ++ ys) ≡ runs_of test ys
  pub none : (test : f.Part → Bool) (xs : List f.Part) → NonePass test xs → runs_of test xs ≡ []
  pub run : (test : f.Part → Bool) (head : f.Part) (customs after : List f.Part) → test head ≡ true → list_all is_custom customs ≡ true → NonePass test customs →
      IsEndOfRun after → runs_of test (head ∷ (customs ++ after)) ≡ record { head = head; customs = customs } ∷ runs_of test after
  pub owned : (head : f.Part) (customs after : List f.Part) → is_custom head ≡ false → begins_run head ≡ true → list_all is_custom customs ≡ true →
      AllOwned after → AllOwned (head ∷ (customs ++ after))
  pub plain : (head : f.Part) (after : List f.Part) → is_custom head ≡ false → AllOwned after → AllOwned (head ∷ after)
