use Rattle.std.proofs.Common.{◌∙◌, ap, sym}
use Rattle.source_nodes.specs.Least.{least}
use Rattle.check_names.proofs.RootLemmas.{all_wanted, none_wanted}
use Rattle.check_names.proofs.roots.object_undeclared.Goals as goal

pub returns-then-branch : goal.returns-then-branch
returns-then-branch c s r k = none_wanted s (sym (c.in_ok-has_object.ensures s r k) ∙ c.if-branch.true)

pub returns : goal.returns
returns c s r k = c.in_ok-first.ensures s r ∙ ap least (all_wanted s (sym (c.in_ok-has_object.ensures s r k) ∙ c.if-branch.false))
