use Rattle.std.proofs.Common.{sym, ◌∙◌}
use Rattle.source_syntax.proofs.NamingLemmas.{no_repeat_if_absent, repeat_if_found}
use Rattle.source_syntax.proofs.declared.Declared.is_repeat.Goals as goal

pub returns-in-Some : goal.returns-in-Some
returns-in-Some c =
    repeat_if_found c.args.self.now c.text_at.result.now c.args.k c.in-Some.first c.requires c.text_at.ensures (sym c.find.ensures ∙ c.in-Some.is)

pub returns-in-None : goal.returns-in-None
returns-in-None c =
    no_repeat_if_absent c.args.self.now c.text_at.result.now c.args.k c.requires c.text_at.ensures (sym c.find.ensures ∙ c.in-None.is)
