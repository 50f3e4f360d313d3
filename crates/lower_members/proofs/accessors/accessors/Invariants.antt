use Rattle.std.proofs.Common.{◌≡◌, ◌<◌, ◌^◌, List, length, map, take}
use Rattle.source_model.specs.Forest.{Forest, preorder}
use Rattle.source_model.specs.Members.{accessor, accessors_in}
use Rattle.source_model.specs.Nodes.{Around}
use Rattle.source_model.specs.Source.{Source}
use Rattle.source_syntax.specs.Places.{IsAt}
use Rattle.source_flags.specs.InRange.{AllInRange}
use Rattle.lower_members.specs.SignedMethods.{declared}
use Rattle.lower_members.proofs.accessors.accessors.Given as goal

abbrev pub invariant-loop-piece : goal.invariant-loop-piece
invariant-loop-piece l = (s : Source) (a : Around) → IsAt l.place s a → (f : Forest) (ms : List Forest) → preorder f ≡ l.nodes → AllInRange s f
    → l.methods ≡ map (declared s a) ms → length ms < 2 ^ 32 → l.all ≡ map (accessor s a ms) (take l.piece-index (accessors_in f))
