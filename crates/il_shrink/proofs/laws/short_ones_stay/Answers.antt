use Rattle.il_shrink.proofs.Joins.{shorts_stay}
use Rattle.il_shrink.proofs.laws.short_ones_stay.Goals as goal

pub returns : goal.returns
returns c = shorts_stay
