use Rattle.std.proofs.Common.{length, ◌≤◌}
use Rattle.source_model.specs.Source.{Source}
use Rattle.check_visitor.proofs.AskingLemmas.{Bodied}
use Rattle.check_names.proofs.DataLemmas.{passing}
use Rattle.source_syntax.proofs.Stepping.{Steps}
use Rattle.check_names.proofs.data_lengths.item_past_length.Given as goal

abbrev pub invariant-loop-node : goal.invariant-loop-node
invariant-loop-node l = record {
  steps : Steps (passing l.before l.reader l.below) (passing 0 l.reader l.below) l.below l.left;
  within : l.before ≤ 67108864;
  bodied : (s : Source) → Bodied s l.below → Bodied s l.left;
}

abbrev pub decreases-loop-node : goal.decreases-loop-node
decreases-loop-node l = length l.left
