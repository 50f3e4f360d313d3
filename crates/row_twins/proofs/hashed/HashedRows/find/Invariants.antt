use Rattle.row_twins.proofs.Finding.{IsSearch, ahead_of}
use Rattle.row_twins.proofs.hashed.HashedRows.find.Given as goal

abbrev pub invariant-loop-at : goal.invariant-loop-at
invariant-loop-at g l = IsSearch l.self.rows l.hash (g.T.RowTest.holds l.test) l.at

abbrev pub decreases-loop-at : goal.decreases-loop-at
decreases-loop-at g l = ahead_of l.at
