use Rattle.std.proofs.Common.{◌∙◌, sym, ap}
use Rattle.std.specs.Option.{option_copied}
use Rattle.sig_pool.proofs.Replacing.{chosen_none}
use Rattle.sig_pool.proofs.substitution.chosen.Goals as goal

pub returns-in-None : goal.returns-in-None
returns-in-None c = chosen_none c.args.args.now c.args.number c.args.id (sym c.get.ensures ∙ ap option_copied c.in-None.is)
