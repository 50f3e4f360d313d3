use Rattle.std.proofs.Common.{arith, refl, ◌∙◌}
use Rattle.image_used.proofs.Spreading.{no_tokens, one_more, all_of}
use Rattle.image_used.proofs.spread.Spread.mark_tokens.Goals as goal

pub loop-token-init : goal.loop-token-init
loop-token-init c = (no_tokens c.args.self.now.marks c.args.self.now.todo, refl)

pub loop-token-preserved : goal.loop-token-preserved
loop-token-preserved c = (
  one_more c.args.self.now.marks c.loop-token.self.marks c.mark_token.new.self.marks c.args.self.now.todo c.loop-token.self.todo c.mark_token.new.self.todo c.args.tokens.now c.loop-token.token-index _ 0 c.loop-token-test.true refl c.loop-token.invariant.0
      c.in_ok-mark_token.ensures.marked,
  c.mark_token.ensures.seen ∙ c.loop-token.invariant.1,
)

pub returns-clause-marked : goal.returns-clause-marked
returns-clause-marked c = all_of c.args.self.now.marks c.loop-token.self.marks c.args.self.now.todo c.loop-token.self.todo c.args.tokens.now c.loop-token.token-index (omega arith) c.loop-token.invariant.0
