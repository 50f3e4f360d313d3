use Rattle.std.proofs.Common.{◌-◌, length}
use Rattle.il_lexer.proofs.RunLemmas.{Passed}
use Rattle.il_lexer.proofs.runs.run_of.Given as goal

-- what was passed and the run behind it are the whole run
abbrev pub invariant-loop-n : goal.invariant-loop-n
invariant-loop-n g l = Passed (g.P.Piece.piece_length l.piece) l.rest l.at l.pieces

abbrev pub decreases-loop-n : goal.decreases-loop-n
decreases-loop-n g l = length l.rest - l.at
