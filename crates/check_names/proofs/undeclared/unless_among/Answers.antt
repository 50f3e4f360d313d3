use Rattle.std.proofs.Common.{◌∙◌, sym}
use Rattle.check_names.proofs.MissingLemmas.{absent, there}
use Rattle.check_names.proofs.undeclared.unless_among.Goals as goal

pub returns-in-Some : goal.returns-in-Some
returns-in-Some c s r named =
    there s c.args.names.now c.args.token _ _ (c.as_bytes.ensures ∙ c.in_ok-text.ensures s r named) (sym c.find.ensures ∙ c.in-Some.is)

pub returns : goal.returns
returns c s r named =
    absent s c.args.names.now c.args.token _ (c.as_bytes.ensures ∙ c.in_ok-text.ensures s r named) (sym c.find.ensures ∙ c.in-None.is)
