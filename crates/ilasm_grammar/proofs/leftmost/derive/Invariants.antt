use Rattle.std.proofs.Common.{◌≡◌, ◌≤◌, ◌-◌, [], length}
use Rattle.ilasm_grammar.specs.Parsing.{terminals_of_spans, IsUnderWay}
use Rattle.ilasm_grammar.specs.Stacked.{symbols_at}
use Rattle.ilasm_grammar.proofs.leftmost.derive.Given as goal

abbrev pub invariant-loop-next : goal.invariant-loop-next
invariant-loop-next l = record {
  within : l.at ≤ length l.spans;
  none : 887 ≤ l.next → symbols_at l.next l.behind ≡ [];
  under : IsUnderWay (terminals_of_spans l.spans) l.at (symbols_at l.next l.behind) l.nodes;
}

abbrev pub decreases-loop-next : goal.decreases-loop-next
decreases-loop-next l = length l.spans - l.at
