-- The manifest of a listing breaks no rule (ECMA-335 II.6.2, II.25.2.3).
use Rattle.assembly_tree.specs.declared.assembly.Assembly.{Assembly}
use Rattle.source_model.specs.Nodes.{nothing_around}
use Rattle.source_model.specs.Source.{Source}
use Rattle.listing_declarations.specs.Laws.{IsListingOf, manifest_items, manifest_place}
use Rattle.listing_denotes.specs.Quiet.{ItemsBreakNothing}

-- the assembly with its attributes, its module with those of the module, and the numbers of the headers
abbrev pub ManifestsBreakNothing : Type 0
ManifestsBreakNothing = (s : Source) (a : Assembly) → IsListingOf s a → ItemsBreakNothing s nothing_around (manifest_place a) (manifest_items a)
