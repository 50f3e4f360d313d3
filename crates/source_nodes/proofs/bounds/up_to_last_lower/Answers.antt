use Rattle.std.proofs.Common.{sym, ◌∙◌}
use Rattle.source_nodes.proofs.BoundLemmas.{trimmed_at, trimmed_less}
use Rattle.source_nodes.proofs.bounds.up_to_last_lower.Goals as goal

pub returns-then-is_some : goal.returns-then-is_some
returns-then-is_some c s e =
    trimmed_at s c.args.dimensions.now c.loop-last.left.now c.in-Some.rest.now c.in-Some.last.now c.in-Some.ensures.cases.0
    (sym c.is_some.ensures ∙ c.if-is_some.true) (c.loop-last.invariant s e)

pub loop-last-preserved : goal.loop-last-preserved
loop-last-preserved c s e =
    trimmed_less s c.args.dimensions.now c.loop-last.left.now c.in-Some.rest.now c.in-Some.last.now c.in-Some.ensures.cases.0
    (sym c.is_some.ensures ∙ c.if-is_some.false) (c.loop-last.invariant s e)
