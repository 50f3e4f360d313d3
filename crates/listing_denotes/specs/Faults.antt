-- Which rules a listing doesn't break (ECMA-335 II.5.4, II.6.2, II.6.3, II.10, II.15.4.1.2, II.16.3, II.22).
use Rattle.std.specs.Prelude.{IsUtf8}
use Rattle.assembly_tree.specs.declared.assembly.Assembly.{Assembly}
use Rattle.source_model.specs.Denotes.{Denotes}
use Rattle.source_model.specs.Nodes.{nodes}
use Rattle.source_model.specs.Source.{Source}
use Rattle.faultless_nodes.specs.Laws.{EachBreaksNothing, WholeBreaksNothing}
use Rattle.listing_declarations.specs.Laws.{IsListingOf}
use Rattle.listing_model.specs.Canon.{listing}
use Rattle.listing_tokens.specs.Laws.{IsListed}

-- no type, no member of a type or outside of any, no assembly, no entry point, no module and no data is declared twice, and there is an
-- assembly
abbrev pub ListingsDeclareOnce : Type 0
ListingsDeclareOnce = (s : Source) (a : Assembly) → IsListingOf s a → WholeBreaksNothing s

-- a listing denotes its assembly where none of its productions breaks a rule
abbrev pub QuietListingsDenote : Type 0
QuietListingsDenote = (a : Assembly) → IsListed a → IsUtf8 (listing a) → ((s : Source) → IsListingOf s a → EachBreaksNothing s (nodes s)) → Denotes (listing a) a
