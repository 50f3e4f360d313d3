use Rattle.all_bodies.proofs.Listed.{each_listed}
use Rattle.all_bodies.proofs.laws.each_body_is_listed.Goals as goal

pub returns : goal.returns
returns c = each_listed
