use Rattle.std.proofs.Common.{◌∙◌, sym}
use Rattle.check_names.proofs.LoneNames.{lone_absent, lone_found}
use Rattle.check_names.proofs.named_types.lone_missing.Goals as goal

pub returns-in-Some : goal.returns-in-Some
returns-in-Some c s r name = lone_found s c.args.classes.now c.args.token _ (sym (c.in_ok-number.ensures s r name) ∙ c.in-Some.is)

pub returns-in-None : goal.returns-in-None
returns-in-None c s r name = lone_absent s c.args.classes.now c.args.token (sym (c.in_ok-number.ensures s r name) ∙ c.in-None.is)
