use Rattle.std.proofs.Common.{refl, arith}
use Rattle.std.proofs.lemmas.List.Elements.{All-more}
use Rattle.body_tokens.specs.Tokens.{IsUseKnown}
use Rattle.body_tokens.proofs.Checking.{all_told}
use Rattle.body_tokens.proofs.whole.are_operands_known.Goals as goal

pub loop-one-preserved : goal.loop-one-preserved
loop-one-preserved c =
    All-more (IsUseKnown c.args.image.now) c.args.uses.now c.loop-one.one-index _ c.loop-one-test.true c.loop-one.invariant (c.if-not-is_known.ensures.0 refl)

pub returns : goal.returns
returns c = all_told (IsUseKnown c.args.image.now) c.args.uses.now c.loop-one.one-index (omega arith) c.loop-one.invariant
