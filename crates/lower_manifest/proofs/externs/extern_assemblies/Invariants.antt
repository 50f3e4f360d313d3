use Rattle.std.proofs.Common.{◌≡◌, take}
use Rattle.std.specs.List.{flat_map}
use Rattle.ilasm_grammar.specs.declared.productions.TheConstants.{DECL_ASSEMBLY}
use Rattle.source_model.specs.Items.{declarations}
use Rattle.source_model.specs.Source.{Source}
use Rattle.source_nodes.specs.Pieces.{ArePieces}
use Rattle.source_nodes.specs.Readers.{Reads}
use Rattle.source_flags.specs.InRange.{AllInRange}
use Rattle.lower_manifest.specs.Chosen.{are_of}
use Rattle.source_flags.specs.declared.gathering.Kind.TheVariants.{One}
use Rattle.lower_manifest.proofs.ExternLemmas.{named_in}
use Rattle.lower_manifest.proofs.externs.extern_assemblies.Given as goal

abbrev pub invariant-loop-piece : goal.invariant-loop-piece
invariant-loop-piece l = (s : Source) → Reads l.reader s → ArePieces l.reader.nodes.now l.declared (declarations s.tree) → AllInRange s s.tree
    → l.all ≡ flat_map (named_in s) (take l.piece-index (are_of (One DECL_ASSEMBLY) (declarations s.tree)))
