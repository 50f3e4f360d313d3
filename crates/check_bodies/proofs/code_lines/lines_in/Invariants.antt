use Rattle.std.proofs.Common.{◌≡◌, length, ◌-◌, ◌∷◌, []}
use Rattle.std.specs.Prelude.{true}
use Rattle.ilasm_grammar.specs.declared.productions.TheConstants.{ITEM_NAME}
use Rattle.source_model.specs.Instructions.{instruction_forms}
use Rattle.source_flags.proofs.PastShut.{Gathered}
use Rattle.check_bodies.specs.CodeLines.{others}
use Rattle.check_bodies.proofs.LabelWalks.{Named}
use Rattle.check_bodies.proofs.PastLemmas.{passed_forms}
use Rattle.check_bodies.proofs.code_lines.lines_in.Given as goal

abbrev pub invariant-loop-node : goal.invariant-loop-node
invariant-loop-node l = record {
  pieces : Gathered l.nodes passed_forms instruction_forms l.at l.instructions;
  named : Named l.nodes passed_forms (ITEM_NAME ∷ []) l.at l.labels;
  plain-is : l.plain ≡ true → Gathered l.nodes passed_forms others l.at [];
}

abbrev pub decreases-loop-node : goal.decreases-loop-node
decreases-loop-node l = length l.nodes - l.at
