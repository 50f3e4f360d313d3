use Rattle.source_model.proofs.Meanings.{has_meaning}
use Rattle.source_model.proofs.laws.sources_have_a_meaning.Goals as goal

pub returns : goal.returns
returns c = has_meaning
