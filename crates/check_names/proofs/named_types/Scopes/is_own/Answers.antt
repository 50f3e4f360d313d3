use Rattle.std.proofs.Common.{◌∙◌, sym}
use Rattle.check_names.proofs.NamedTypeLemmas.{first_place, not_first}
use Rattle.check_names.proofs.named_types.Scopes.is_own.Goals as goal

pub returns-in-Some : goal.returns-in-Some
returns-in-Some c = first_place c.args.self.now.own.now c.args.text.now c.in-Some.place (sym c.find.ensures ∙ c.in-Some.is)

pub returns-in-None : goal.returns-in-None
returns-in-None c = not_first c.args.self.now.own.now c.args.text.now (sym c.find.ensures ∙ c.in-None.is)
