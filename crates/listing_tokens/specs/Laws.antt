-- What the text of a listing is: its leaves as tokens.
use Rattle.std.specs.Prelude.{◌≡◌, ◌≤◌, ◌^◌, List, map, IsTrue, IsUtf8}
use Rattle.il_lexer.specs.Lexing.{Lexes, deepest_from}
use Rattle.il_lexer.specs.Unplaced.{Spelling, Reads, spelling_in}
use Rattle.il_lexer.specs.declared.types.Token.{Token}
use Rattle.assembly_tree.specs.Weight.{weight_of}
use Rattle.assembly_tree.specs.WellFormed.{is_well_formed}
use Rattle.assembly_tree.specs.declared.assembly.Assembly.{Assembly}
use Rattle.listing_growth.specs.Held.{is_held}
use Rattle.listing_model.specs.Canon.{canon, listing}
use Rattle.listing_model.specs.Shown.{Leaf, Shown, leaves}

abbrev pub spelling : Leaf → Spelling
spelling l = record { kind = l.kind; text = l.text }

-- the spellings of a piece's tokens
abbrev pub spellings : Shown → List Spelling
spellings g = map spelling (leaves g)

-- an assembly whose listing is spoken of: well formed, not too heavy, with values such as a tree in memory holds
pub record IsListed (a : Assembly) : Type 0 where
  pub formed : IsTrue (is_well_formed a)
  pub light : weight_of a ≤ 2 ^ 26
  pub held : IsTrue (is_held a)

-- the listing reads as the leaves of the canonical source; where it is UTF-8 it lexes into tokens that are spelled so
pub record LeavesAreRead : Type 0 where
  pub reads : (a : Assembly) → IsListed a → Reads (listing a) (spellings (canon a))
  pub lexes : (a : Assembly) → IsListed a → IsUtf8 (listing a) →
      (tokens : List Token) × Lexes (listing a) tokens × (map (spelling_in (listing a)) tokens ≡ spellings (canon a))

-- tokens that are spelled so have brackets at most 400 deep
abbrev pub ListingsAreShallow : Type 0
ListingsAreShallow =
    (a : Assembly) → IsListed a → (tokens : List Token) → map (spelling_in (listing a)) tokens ≡ spellings (canon a) → deepest_from 0 tokens ≤ 400
