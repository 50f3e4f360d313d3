use Rattle.std.proofs.Common.{take}
use Rattle.method_states.specs.Marks.{MarkBesides}
use Rattle.method_states.proofs.tokens.mark_each.Given as goal

abbrev pub invariant-loop-token : goal.invariant-loop-token
invariant-loop-token l = MarkBesides l.fn.marks (take l.token-index l.tokens) l.marks
