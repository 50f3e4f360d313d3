use Rattle.lower_manifest.proofs.RangeOfAll.{all_in_range}
use Rattle.lower_manifest.proofs.laws.all_are_in_range.Goals as goal

pub returns : goal.returns
returns c s d e = all_in_range s (c.derivations_have_bodies.ensures s d).1 e
