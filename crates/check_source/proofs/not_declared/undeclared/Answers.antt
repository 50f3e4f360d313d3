use Rattle.std.proofs.Common.{◌∙◌, sym}
use Rattle.check_source.proofs.PassLemmas.{nothing_broken}
use Rattle.check_source.proofs.not_declared.undeclared.Goals as goal

pub returns-in-None : goal.returns-in-None
returns-in-None c s r d e = c.other_undeclared.ensures s r d (nothing_broken s (sym c.in-None.is ∙ e))
