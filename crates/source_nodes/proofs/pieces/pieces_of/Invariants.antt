use Rattle.std.proofs.Common.{length, ◌-◌}
use Rattle.source_nodes.specs.Pieces.{productions_of}
use Rattle.source_nodes.proofs.PieceLemmas.{Gathered}
use Rattle.source_nodes.proofs.pieces.pieces_of.Given as goal

abbrev pub invariant-loop-node : goal.invariant-loop-node
invariant-loop-node l = Gathered l.nodes (productions_of l.sought) l.at l.found

abbrev pub decreases-loop-node : goal.decreases-loop-node
decreases-loop-node l = length l.nodes - l.at
