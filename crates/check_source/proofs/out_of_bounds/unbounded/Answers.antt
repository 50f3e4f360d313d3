use Rattle.std.proofs.Common.{◌∙◌, sym}
use Rattle.check_source.proofs.PassLemmas.{nothing_broken}
use Rattle.check_source.proofs.out_of_bounds.unbounded.Goals as goal

pub returns-in-None : goal.returns-in-None
returns-in-None c s r d e = c.other_unbounded.ensures s r d (nothing_broken s (sym c.in-None.is ∙ e))
