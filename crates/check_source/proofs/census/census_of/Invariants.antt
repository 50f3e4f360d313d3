use Rattle.std.proofs.Common.{length}
use Rattle.check_source.proofs.CensusLemmas.{Counting}
use Rattle.check_source.proofs.census.census_of.Given as goal

abbrev pub invariant-loop-left : goal.invariant-loop-left
invariant-loop-left l = Counting l.nodes l.left l.census

abbrev pub decreases-loop-left : goal.decreases-loop-left
decreases-loop-left l = length l.left

abbrev pub invariant-loop-left-2 : goal.invariant-loop-left-2
invariant-loop-left-2 l = Counting l.nodes l.left l.census

abbrev pub decreases-loop-left-2 : goal.decreases-loop-left-2
decreases-loop-left-2 l = length l.left
