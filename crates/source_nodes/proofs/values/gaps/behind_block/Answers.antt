use Rattle.std.proofs.Common.{sym, ◌∙◌}
use Rattle.source_nodes.proofs.GapLemmas.{closes}
use Rattle.source_nodes.proofs.values.gaps.behind_block.Goals as goal

pub returns-then-begin-clause-passed : goal.returns-then-begin-clause-passed
returns-then-begin-clause-passed c = λ text after t e.
    c.behind.ensures
    ∙ closes c.loop-rest.rest.now after (sym c.begin.ensures ∙ c.if-begin.true) (c.loop-rest.invariant.passed text after t e)
