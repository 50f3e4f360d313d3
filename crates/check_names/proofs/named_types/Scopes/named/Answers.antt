use Rattle.std.proofs.Common.{◌∙◌, sym}
use Rattle.check_names.proofs.NamedTypeLemmas.{elsewhere, here_or_nowhere}
use Rattle.check_names.proofs.named_types.Scopes.named.Goals as goal

pub returns-in-Some : goal.returns-in-Some
returns-in-Some c = elsewhere c.args.self.now.keys.now c.args.self.now.own.now c.args.text.now _ (sym c.find.ensures ∙ c.in-Some.is)

pub returns-in-None : goal.returns-in-None
returns-in-None c =
    here_or_nowhere c.args.self.now.keys.now c.args.self.now.own.now c.args.text.now c.here_if.result c.is_own.result (sym c.find.ensures ∙ c.in-None.is) c.here_if.ensures
    c.is_own.ensures
