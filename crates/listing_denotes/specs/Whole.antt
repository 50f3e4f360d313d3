-- What a whole listing says (ECMA-335 II.5 to II.19, II.21).
use Rattle.std.specs.Prelude.{◌≡◌, IsUtf8}
use Rattle.assembly_tree.specs.declared.assembly.Assembly.{Assembly}
use Rattle.source_model.specs.Classes.{assembly}
use Rattle.source_model.specs.Denotes.{broken, IsRead, Denotes}
use Rattle.source_model.specs.Faults.{IsFaultless}
use Rattle.source_model.specs.Source.{Source}
use Rattle.listing_declarations.specs.Laws.{IsListingOf}
use Rattle.listing_model.specs.Canon.{listing}
use Rattle.listing_nesting.specs.Laws.{HasData}
use Rattle.listing_formed.specs.Laws.{Knows}
use Rattle.listing_tokens.specs.Laws.{IsListed}

-- the bytes of a listing as a source that is the listing
pub record Lists (a : Assembly) : Type 0 where
  pub source : Source
  pub read : IsRead (listing a) source
  pub listed : IsListingOf source a

abbrev pub ListingsAreSources : Type 0
ListingsAreSources = (a : Assembly) → IsListed a → IsUtf8 (listing a) → Lists a

-- A source that is a listing knows the other assemblies, has the data of the fields, and says what the tree says.
pub record ListingsAreRead : Type 0 where
  pub knows : (s : Source) (a : Assembly) → IsListingOf s a → Knows s a
  pub has : (s : Source) (a : Assembly) → IsListingOf s a → HasData s a
  pub says : (s : Source) (a : Assembly) → IsListingOf s a → assembly s ≡ a

-- a listing denotes the assembly, where no source that is this listing breaks a rule
abbrev pub FaultlessListingsDenote : Type 0
FaultlessListingsDenote =
    (a : Assembly) → IsListed a → IsUtf8 (listing a) → ((s : Source) → IsRead (listing a) s → IsListingOf s a → IsFaultless (broken s)) → Denotes (listing a) a
