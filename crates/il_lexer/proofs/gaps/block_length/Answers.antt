use Rattle.std.proofs.Common.{sym, ap, ◌∙◌, arith}
use Rattle.il_lexer.specs.Gaps.{is_close}
use Rattle.il_lexer.proofs.BlockLemmas.{block-more}
use Rattle.il_lexer.proofs.gaps.block_length.Goals as goal

pub loop-at-preserved : goal.loop-at-preserved
loop-at-preserved c = record {
  within = omega arith;
  whole = block-more c.args.rest.now c.loop-at.at (omega arith)
      (sym (ap is_close c.behind.ensures.value) ∙ sym c.is_close.ensures ∙ c.if-is_close.false) c.loop-at.invariant.whole;
}
