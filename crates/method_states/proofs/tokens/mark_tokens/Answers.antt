use Rattle.method_states.proofs.Marking.{body_marked}
use Rattle.method_states.proofs.tokens.mark_tokens.Goals as goal

pub returns : goal.returns
returns c =
    body_marked c.args.marks.now c.mark_locals.new.marks c.mark_operands.new.marks c.mark_each.new.marks c.args.outline.now c.as_slice-operands.result.now c.as_slice-catches.result.now
    c.as_slice-operands.ensures c.as_slice-catches.ensures c.mark_locals.ensures c.mark_operands.ensures c.mark_each.ensures
