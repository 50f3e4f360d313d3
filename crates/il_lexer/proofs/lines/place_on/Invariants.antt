use Rattle.std.proofs.Common.{◌≤◌, ◌-◌, length}
use Rattle.il_lexer.specs.Lexing.{IsLine}
use Rattle.il_lexer.proofs.lines.place_on.Given as goal

abbrev pub invariant-loop-line : goal.invariant-loop-line
invariant-loop-line l = record {
  is : IsLine l.source l.line;
  starts : l.line.start ≤ l.to;
}

abbrev pub decreases-loop-line : goal.decreases-loop-line
decreases-loop-line l = length l.source - l.line.end
