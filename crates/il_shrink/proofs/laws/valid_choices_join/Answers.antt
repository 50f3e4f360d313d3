use Rattle.il_shrink.proofs.Joins.{choices_join}
use Rattle.il_shrink.proofs.laws.valid_choices_join.Goals as goal

pub returns : goal.returns
returns c = choices_join
