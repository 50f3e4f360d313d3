use Rattle.std.proofs.Common.{◌-◌, length}
use Rattle.il_lexer.specs.Lexing.{all_placed, Scanned}
use Rattle.il_lexer.proofs.scan.scan.Given as goal

abbrev pub invariant-loop-spans : goal.invariant-loop-spans
invariant-loop-spans l = Scanned l.source (all_placed l.source l.spans) l.at l.depth

abbrev pub decreases-loop-spans : goal.decreases-loop-spans
decreases-loop-spans l = length l.source - l.at
