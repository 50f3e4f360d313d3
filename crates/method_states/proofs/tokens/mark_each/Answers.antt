use Rattle.std.proofs.Common.{arith, refl}
use Rattle.method_states.proofs.Marking.{besides_none, besides_more, whole}
use Rattle.method_states.proofs.tokens.mark_each.Goals as goal

pub loop-token-init : goal.loop-token-init
loop-token-init c = besides_none c.args.marks.now

pub loop-token-preserved : goal.loop-token-preserved
loop-token-preserved c =
    besides_more c.args.marks.now c.loop-token.marks c.mark_token.new.marks c.args.tokens.now c.loop-token.token-index _ 0 c.loop-token-test.true refl c.loop-token.invariant c.mark_token.ensures

pub returns : goal.returns
returns c = whole c.args.marks.now c.loop-token.marks c.args.tokens.now c.loop-token.token-index (omega arith) c.loop-token.invariant
