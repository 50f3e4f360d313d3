use Rattle.std.proofs.Common.{◌≡◌, ◌<◌, ◌^◌, List, length}
use Rattle.std.specs.List.{AllByRecursion}
use Rattle.source_flags.specs.InRange.{AllInRange}
use Rattle.source_model.specs.Forest.{Forest, Part, preorder}
use Rattle.source_model.specs.Nodes.{Around, typar_names}
use Rattle.source_model.specs.Source.{Source}
use Rattle.source_nodes.specs.Pieces.{ArePieces}
use Rattle.source_syntax.specs.Places.{IsAt}
use Rattle.lower_members.specs.Ranged.{IsRangedItem}
use Rattle.lower_members.proofs.GenericLemmas.{Read}
use Rattle.lower_members.proofs.generics.generics.Given as goal

abbrev pub invariant-loop-typar : goal.invariant-loop-typar
invariant-loop-typar l = (s : Source) (a : Around) → IsAt l.place s a → (f : Forest) (ps : List Part) → preorder f ≡ l.nodes → AllInRange s f
    → l.names ≡ typar_names s f → length l.names < 2 ^ 32 → ArePieces l.nodes l.found ps → AllByRecursion (IsRangedItem s) ps → Read s a f ps l.typar-index l.given.items l.all
