use Rattle.stack_states.proofs.Pushing.{given_number, given_integer, given_outcome}
use Rattle.stack_states.proofs.effect.given.Goals as goal

pub returns-in-SameNumber-clause-ok : goal.returns-in-SameNumber-clause-ok
returns-in-SameNumber-clause-ok c =
    let ns = c.args.w.now.nodes in
    given_number ns c.args.pushed c.args.first.now c.args.second.now c.kept_if.result c.is_number.result c.in-SameNumber.is (c.is_number.ensures ns) (c.kept_if.ensures.is ns)
    (c.kept_if.ensures.within _ c.requires.first)

pub returns-in-SameInteger-clause-ok : goal.returns-in-SameInteger-clause-ok
returns-in-SameInteger-clause-ok c =
    let ns = c.args.w.now.nodes in
    given_integer ns c.args.pushed c.args.first.now c.args.second.now c.kept_if-in-SameInteger.result c.is_integer.result c.in-SameInteger.is (c.is_integer.ensures ns) (c.kept_if-in-SameInteger.ensures.is ns)
    (c.kept_if-in-SameInteger.ensures.within _ c.requires.first)

pub returns-in-Computed-clause-ok : goal.returns-in-Computed-clause-ok
returns-in-Computed-clause-ok c =
    let ns = c.args.w.now.nodes in
    given_outcome ns c.args.pushed c.args.first.now c.args.second.now c.outcome.result c.in-Computed.pairing c.in-Computed.is (c.outcome.ensures.is ns) (c.outcome.ensures.within _)
