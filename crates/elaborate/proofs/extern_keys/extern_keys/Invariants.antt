use Rattle.std.proofs.Common.{◌≡◌, take}
use Rattle.std.specs.List.{flat_map}
use Rattle.ilasm_grammar.specs.declared.productions.TheConstants.{DECL_ASSEMBLY}
use Rattle.source_model.specs.Items.{declarations}
use Rattle.source_model.specs.Source.{Source}
use Rattle.source_nodes.specs.Pieces.{ArePieces}
use Rattle.lower_manifest.specs.Chosen.{are_of}
use Rattle.source_flags.specs.declared.gathering.Kind.TheVariants.{One}
use Rattle.elaborate.proofs.AssemblyLemmas.{keys_in}
use Rattle.elaborate.proofs.extern_keys.extern_keys.Given as goal

abbrev pub invariant-loop-piece : goal.invariant-loop-piece
invariant-loop-piece l = (s : Source) → ArePieces l.reader.nodes.now l.declared (declarations s.tree)
    → l.tokens ≡ flat_map keys_in (take l.piece-index (are_of (One DECL_ASSEMBLY) (declarations s.tree)))
