use Rattle.laws_formed_sources.proofs.sources.Unbroken.{all_faultless}
use Rattle.laws_formed_sources.proofs.sources_laws.all_are_faultless.Goals as goal

pub returns : goal.returns
returns c s r = all_faultless s (c.derivations_have_bodies.ensures s r.read.derived).1 r.faultless
