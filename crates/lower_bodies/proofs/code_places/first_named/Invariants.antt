use Rattle.std.proofs.Common.{◌≡◌, length}
use Rattle.source_model.specs.Source.{Source}
use Rattle.lower_bodies.specs.LabelSlots.{first_named}
use Rattle.source_syntax.specs.Methods.{AreNames}
use Rattle.source_nodes.specs.Readers.{Reads}
use Rattle.lower_bodies.proofs.code_places.first_named.Given as goal

-- what is left are names, and the first of all is the first of them
abbrev pub invariant-loop-left : goal.invariant-loop-left
invariant-loop-left l = (s : Source) → Reads l.reader s → AreNames s l.tokens → AreNames s l.left × (first_named s l.name l.tokens ≡ first_named s l.name l.left)

abbrev pub decreases-loop-left : goal.decreases-loop-left
decreases-loop-left l = length l.left
