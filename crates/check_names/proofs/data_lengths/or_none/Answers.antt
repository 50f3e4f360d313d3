use Rattle.std.proofs.Common.{sym, ◌∙◌}
use Rattle.check_names.proofs.DataLemmas.{none_counted, some_counted}
use Rattle.check_names.proofs.data_lengths.or_none.Goals as goal

pub returns-in-Some : goal.returns-in-Some
returns-in-Some c s p e = some_counted s p c.in-Some.length (sym c.in-Some.is ∙ e)

pub returns-in-None : goal.returns-in-None
returns-in-None c s p e = none_counted s p (sym c.in-None.is ∙ e)
