use Rattle.std.proofs.Common.{◌≡◌, map, take}
use Rattle.source_model.specs.Forest.{Forest, parts, preorder}
use Rattle.source_model.specs.Members.{overridden}
use Rattle.source_model.specs.Nodes.{Around}
use Rattle.source_model.specs.Source.{Source}
use Rattle.source_syntax.specs.Places.{IsAt}
use Rattle.source_flags.specs.InRange.{AllInRange}
use Rattle.source_flags.specs.Lines.{productions_of}
use Rattle.source_flags.specs.declared.gathering.Kind.TheVariants.{Overrides}
use Rattle.lower_manifest.proofs.overrides.overrides.Given as goal

abbrev pub invariant-loop-piece : goal.invariant-loop-piece
invariant-loop-piece l = (s : Source) (a : Around) → IsAt l.place s a → (f : Forest) → preorder f ≡ l.nodes → AllInRange s f
    → l.all ≡ map (overridden s a f) (take l.piece-index (parts (productions_of Overrides) f))
