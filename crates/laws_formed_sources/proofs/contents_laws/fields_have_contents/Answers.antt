use Rattle.laws_formed_sources.proofs.contents.Contents.{contents_formed}
use Rattle.laws_formed_sources.proofs.contents_laws.fields_have_contents.Goals as goal

pub returns : goal.returns
returns c s r n i is = contents_formed c.derivations_have_bodies.ensures s r n i is
