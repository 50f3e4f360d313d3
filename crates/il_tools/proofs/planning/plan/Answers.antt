use Rattle.std.proofs.Common.{◌∙◌, rules}
use Rattle.il_tools.proofs.CommandLemmas.{given_merits, given_within, plan_gives, some_given}
use Rattle.il_tools.proofs.planning.plan.Goals as goal

pub bounds-given-0 : goal.bounds-given-0
bounds-given-0 c = some_given c.args.command c.args.given.now c.requires

pub assembled-requires : goal.assembled-requires
assembled-requires c = given_within c.args.command c.args.given.now c.requires c.index-given-0.result c.as_slice.result.now (c.as_slice.ensures ∙ c.index-given-0.is)

pub returns-clause-gives : goal.returns-clause-gives
returns-clause-gives c =
    plan_gives c.args.command _ _ _ _ c.args.given.now (search rules) c.requires
    c.index-given-0.result c.as_slice.result.now c.as_str.result.now c.in_ok-ending.ending (c.as_slice.ensures ∙ c.index-given-0.is) c.as_str.ensures c.in_ok-ending.ensures.gives

pub returns-clause-merits : goal.returns-clause-merits
returns-clause-merits c m due =
    given_merits c.args.command c.args.given.now c.requires c.index-given-0.result c.as_slice.result.now c.in_ok-ending.ending (c.as_slice.ensures ∙ c.index-given-0.is)
    c.in_ok-ending.ensures.merits m due
