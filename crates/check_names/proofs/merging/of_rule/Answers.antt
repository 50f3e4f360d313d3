use Rattle.std.proofs.Common.{sym, ◌∙◌}
use Rattle.std.specs.Prelude.{None, Some}
use Rattle.source_syntax.proofs.LeastLemmas.{earliest_by}
use Rattle.check_names.proofs.merging.of_rule.Goals as goal

pub returns-in-None : goal.returns-in-None
returns-in-None c ks e = earliest_by c.args.rule None ks (sym c.in-None.is ∙ e)

pub returns-in-Some : goal.returns-in-Some
returns-in-Some c ks e = earliest_by c.args.rule (Some c.in-Some.token) ks (sym c.in-Some.is ∙ e)
