use Rattle.std.proofs.Common.{◌≡◌, [], ◌∷◌, ◌++◌, map, take}
use Rattle.ilasm_grammar.specs.declared.productions.TheConstants.{ASSEMBLY_EXTERN}
use Rattle.source_model.specs.Forest.{Forest, parts, preorder}
use Rattle.source_model.specs.Source.{Source}
use Rattle.source_nodes.specs.Readers.{Reads}
use Rattle.source_flags.specs.InRange.{AllInRange}
use Rattle.lower_manifest.specs.Externs.{extern_at}
use Rattle.lower_manifest.proofs.externs.push_externs.Given as goal

abbrev pub invariant-loop-piece : goal.invariant-loop-piece
invariant-loop-piece l = (s : Source) (f : Forest) → Reads l.reader s → preorder f ≡ l.nodes → AllInRange s f
    → l.all ≡ l.initial.all ++ map (extern_at s) (take l.piece-index (parts (ASSEMBLY_EXTERN ∷ []) f))
