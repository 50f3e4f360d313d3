use Rattle.std.proofs.Common.{length, ◌≤◌}
use Rattle.std.specs.Prelude.{None}
use Rattle.source_model.specs.Source.{Source}
use Rattle.source_syntax.proofs.Stepping.{Steps}
use Rattle.check_visitor.proofs.AskingLemmas.{Bodied}
use Rattle.check_bodies.proofs.ClauseLemmas.{sought}
use Rattle.check_bodies.proofs.clause_rules.+first_backwards.Given as goal

abbrev pub invariant-loop-node : goal.invariant-loop-node
invariant-loop-node l = record {
  steps : Steps (sought l.reader l.places l.tried l.nodes l.found) (sought l.reader l.places l.tried l.nodes None) l.nodes l.left;
  shorter : length l.left ≤ length l.nodes;
  bodied : (s : Source) → Bodied s l.nodes → Bodied s l.left;
}

abbrev pub decreases-loop-node : goal.decreases-loop-node
decreases-loop-node l = length l.left

abbrev pub decreases-first_backwards : goal.decreases-first_backwards
decreases-first_backwards l = length l.nodes.now
