use Rattle.laws_formed_sources.proofs.sources.Unbroken.{all_faultless}
use Rattle.laws_formed_sources.proofs.members.Accessors.{accessors_formed}
use Rattle.laws_formed_sources.proofs.members_laws.accessors_are_methods.Goals as goal

pub returns : goal.returns
returns c s r = accessors_formed s r (all_faultless s (c.derivations_have_bodies.ensures s r.read.derived).1 r.faultless)
