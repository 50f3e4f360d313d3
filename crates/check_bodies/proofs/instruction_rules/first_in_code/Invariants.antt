use Rattle.std.proofs.Common.{◌≡◌, drop}
use Rattle.std.specs.List.{enumerate_from, flat_map}
use Rattle.source_model.specs.Instructions.{instructions_of}
use Rattle.source_model.specs.Nodes.{Node}
use Rattle.source_model.specs.Source.{Source}
use Rattle.source_nodes.specs.Derived.{HasBodies}
use Rattle.source_nodes.specs.Least.{least, sooner}
use Rattle.source_nodes.specs.Pieces.{ArePieces}
use Rattle.source_nodes.specs.Readers.{Reads}
use Rattle.check_bodies.proofs.instruction_rules.first_in_code.Given as goal

abbrev pub invariant-loop-k : goal.invariant-loop-k
invariant-loop-k g l = (s : Source) (n : Node) → Reads l.reader s → HasBodies s n.below → g.R.InstructionRule.knows l.rule s n
    → ArePieces l.nodes l.code (instructions_of n.below)
    → sooner l.found (least (flat_map (g.R.InstructionRule.broken l.rule s n) (enumerate_from l.k (drop l.k (instructions_of n.below)))))
    ≡ least (flat_map (g.R.InstructionRule.broken l.rule s n) (enumerate_from 0 (instructions_of n.below)))
