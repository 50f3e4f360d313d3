use Rattle.body_outlines.proofs.Formed.{body_formed}
use Rattle.body_outlines.proofs.laws.what_is_read_is_formed.Goals as goal

pub returns : goal.returns
returns c = body_formed
