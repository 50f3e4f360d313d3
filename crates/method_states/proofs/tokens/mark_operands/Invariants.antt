use Rattle.std.proofs.Common.{map, take}
use Rattle.body_outlines.specs.declared.outlined.TokenUse.{TokenUse}
use Rattle.method_states.specs.Marks.{MarkBesides}
use Rattle.method_states.proofs.tokens.mark_operands.Given as goal

abbrev pub invariant-loop-one : goal.invariant-loop-one
invariant-loop-one l = MarkBesides l.fn.marks (take l.one-index (map (λ (u : TokenUse). u.token) l.uses)) l.marks
