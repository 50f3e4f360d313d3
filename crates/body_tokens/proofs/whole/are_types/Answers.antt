use Rattle.std.proofs.Common.{refl, arith}
use Rattle.std.proofs.lemmas.List.Elements.{All-more}
use Rattle.body_tokens.specs.Tokens.{IsTypeToken}
use Rattle.body_tokens.proofs.Checking.{all_told}
use Rattle.body_tokens.proofs.whole.are_types.Goals as goal

pub loop-token-preserved : goal.loop-token-preserved
loop-token-preserved c =
    All-more (IsTypeToken c.args.image.now) c.args.tokens.now c.loop-token.token-index _ c.loop-token-test.true c.loop-token.invariant (c.if-not-is_type.ensures.0 refl)

pub returns : goal.returns
returns c = all_told (IsTypeToken c.args.image.now) c.args.tokens.now c.loop-token.token-index (omega arith) c.loop-token.invariant
