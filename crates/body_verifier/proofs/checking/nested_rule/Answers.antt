use Rattle.std.proofs.Common.{sym, ◌∙◌}
use Rattle.body_verifier.specs.Checking.{uninitialised, explicit}
use Rattle.body_verifier.proofs.checking.nested_rule.Goals as goal

pub returns-then-is_uninitialised : goal.returns-then-is_uninitialised
returns-then-is_uninitialised c = uninitialised c.requires (sym c.is_uninitialised.ensures ∙ c.if-is_uninitialised.true)

pub returns-then-method : goal.returns-then-method
returns-then-method c = explicit c.requires (sym c.is_uninitialised.ensures ∙ c.if-is_uninitialised.false) c.if-method.true
