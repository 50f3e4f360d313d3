use Rattle.std.proofs.Common.{◌≡◌, length}
use Rattle.ilasm_grammar.specs.Stacked.{symbols_at}
use Rattle.ilasm_grammar.proofs.stack.drop_first.Given as goal

abbrev pub invariant-loop-next : goal.invariant-loop-next
invariant-loop-next l = symbols_at l.next l.behind ≡ symbols_at l.initial.next l.initial.behind

abbrev pub decreases-loop-next : goal.decreases-loop-next
decreases-loop-next l = length l.behind
