use Rattle.row_chains.proofs.Linking.{AreLinked}
use Rattle.row_chains.proofs.chains.link.Given as goal

abbrev pub decreases-loop-row : goal.decreases-loop-row
decreases-loop-row l = l.row

abbrev pub invariant-loop-row : goal.invariant-loop-row
invariant-loop-row l = AreLinked l.owners l.initial.heads l.row l.heads l.nexts
