use Rattle.std.proofs.Common.{◌∙◌, ap}
use Rattle.std.specs.Prelude.{is_some}
use Rattle.check_visitor.specs.Surroundings.{found_in}
use Rattle.check_members.proofs.KeepLemmas.{some_found}
use Rattle.check_members.proofs.unbroken.breaks.Goals as goal

pub returns : goal.returns
returns g c s a f r p h e b =
    c.is_some.ensures ∙ ap is_some (c.in_ok-first.ensures s a f r p e b h) ∙ some_found (found_in (g.R.Rule.broken c.args.rule.now) s a f)
