use Rattle.std.proofs.Common.{length, ◌≤◌}
use Rattle.std.specs.Prelude.{None}
use Rattle.source_model.specs.Source.{Source}
use Rattle.check_visitor.proofs.AskingLemmas.{Bodied, sought}
use Rattle.source_syntax.proofs.Stepping.{Steps}
use Rattle.check_visitor.proofs.asking.+first_among.Given as goal

abbrev pub invariant-loop-node : goal.invariant-loop-node
invariant-loop-node g l = record {
  steps : Steps (sought (g.R.Rule.broken l.rule) l.reader l.place l.none l.nodes l.found) (sought (g.R.Rule.broken l.rule) l.reader l.place l.none l.nodes None) l.nodes l.left;
  shorter : length l.left ≤ length l.nodes;
  bodied : (s : Source) → Bodied s l.nodes → Bodied s l.left;
}

abbrev pub decreases-loop-node : goal.decreases-loop-node
decreases-loop-node g l = length l.left

abbrev pub decreases-first_among : goal.decreases-first_among
decreases-first_among g l = length l.nodes.now
