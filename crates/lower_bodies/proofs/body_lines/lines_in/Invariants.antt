use Rattle.std.proofs.Common.{length, ◌-◌, ◌∷◌, []}
use Rattle.ilasm_grammar.specs.declared.productions.TheConstants.{ITEM_NAME}
use Rattle.source_model.specs.Instructions.{instruction_forms}
use Rattle.source_flags.proofs.PastShut.{Gathered}
use Rattle.lower_bodies.specs.HeldItems.{passed_forms}
use Rattle.lower_bodies.proofs.HeldLemmas.{Walked}
use Rattle.lower_bodies.proofs.LineWalks.{Named}
use Rattle.lower_bodies.proofs.body_lines.lines_in.Given as goal

abbrev pub invariant-loop-node : goal.invariant-loop-node
invariant-loop-node l = record {
  pieces : Gathered l.nodes passed_forms instruction_forms l.at l.instructions;
  named : Named l.nodes passed_forms (ITEM_NAME ∷ []) l.at l.labels;
  held : Walked l.nodes l.at l.held;
}

abbrev pub decreases-loop-node : goal.decreases-loop-node
decreases-loop-node l = length l.nodes - l.at
