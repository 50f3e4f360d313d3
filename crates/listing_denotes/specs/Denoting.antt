-- What is left to ask of a listing: its types, and its methods outside of any (ECMA-335 II.10, II.15).
use Rattle.std.specs.Prelude.{IsUtf8}
use Rattle.assembly_tree.specs.declared.assembly.Assembly.{Assembly}
use Rattle.source_model.specs.Denotes.{Denotes}
use Rattle.source_model.specs.Nodes.{nothing_around}
use Rattle.source_model.specs.Source.{Source}
use Rattle.listing_declarations.specs.Laws.{IsListingOf, type_items, global_items, types_place, methods_place}
use Rattle.listing_model.specs.Canon.{listing}
use Rattle.listing_tokens.specs.Laws.{IsListed}
use Rattle.listing_denotes.specs.Quiet.{ItemsBreakNothing}

-- the types of a listing break no rule, nor do its methods outside of any
pub record MembersBreakNothing (s : Source) (a : Assembly) : Type 0 where
  pub types : ItemsBreakNothing s nothing_around (types_place a) (type_items a)
  pub methods : ItemsBreakNothing s nothing_around (methods_place a) (global_items a)

-- a listing denotes its assembly where these break none
abbrev pub MembersDenote : Type 0
MembersDenote = (a : Assembly) → IsListed a → IsUtf8 (listing a) → ((s : Source) → IsListingOf s a → MembersBreakNothing s a) → Denotes (listing a) a
