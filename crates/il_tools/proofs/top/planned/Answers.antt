use Rattle.std.proofs.Common.{rules}
use Rattle.il_tools.proofs.CommandLemmas.{plan_misfit, plan_of_words}
use Rattle.il_tools.proofs.top.planned.Goals as goal

pub returns-in_ok-ending-in-Ok-clause-planned : goal.returns-in_ok-ending-in-Ok-clause-planned
returns-in_ok-ending-in-Ok-clause-planned g c =
    plan_of_words c.args.words.now c.in-Ok.command _ _ _ _ c.in_ok-ending-in-Ok.ending c.in-Ok.ensures.command.0 c.in-Ok.ensures.command.1 c.in_ok-ending-in-Ok.ensures.planned

pub returns-in_ok-ending-in-Err-At-clause-planned : goal.returns-in_ok-ending-in-Err-At-clause-planned
returns-in_ok-ending-in-Err-At-clause-planned g c =
    plan_misfit c.args.words.now _ _ _ _ c.in-Err-At.word c.in_ok-ending-in-Err-At.ending (c.parse_words.ensures.misfit c.in-Err-At.word (search rules)) c.in_ok-ending-in-Err-At.ensures
