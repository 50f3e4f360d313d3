use Rattle.image_used.specs.Spreading.{TokensName, IndexNames}
use Rattle.image_used.proofs.Spreading.{on_ok, spreads_as}
use Rattle.image_used.proofs.Telling.{by_tokens, of_tokens}
use Rattle.image_used.proofs.spread.Spread.mark_blob.Goals as goal

pub returns-clause-marked : goal.returns-clause-marked
returns-clause-marked c =
    on_ok c.mark_tokens.result c.mark_tokens.ensures.marked
    (spreads_as c.args.self.now.marks c.mark_tokens.new.self.marks c.args.self.now.todo c.mark_tokens.new.self.todo (TokensName c.as_slice.result.now) (IndexNames c.args.image.now c.args.table c.args.index)
    (λ t r n. by_tokens c.args.image.now c.args.table c.args.index c.as_slice.result.now c.in_ok-tokens.tokens t r c.as_slice.ensures c.in_ok-tokens.ensures n)
    (λ t r n. of_tokens c.args.image.now c.args.table c.args.index c.as_slice.result.now c.in_ok-tokens.tokens t r c.as_slice.ensures c.in_ok-tokens.ensures n))
