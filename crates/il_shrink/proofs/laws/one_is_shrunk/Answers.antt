use Rattle.il_shrink.proofs.Joins.{one_shrunk}
use Rattle.il_shrink.proofs.laws.one_is_shrunk.Goals as goal

pub returns : goal.returns
returns c = one_shrunk
