use Rattle.std.proofs.Common.{length, ◌-◌}
use Rattle.source_flags.specs.Lines.{productions_of}
use Rattle.source_flags.specs.Outside.{shut_of}
use Rattle.source_flags.proofs.PastShut.{Gathered}
use Rattle.source_flags.proofs.outside.parts_outside.Given as goal

abbrev pub invariant-loop-node : goal.invariant-loop-node
invariant-loop-node l = Gathered l.nodes (shut_of l.shut) (productions_of l.kind) l.at l.found

abbrev pub decreases-loop-node : goal.decreases-loop-node
decreases-loop-node l = length l.nodes - l.at
