use Rattle.source_model.proofs.Meanings.{one_meaning}
use Rattle.source_model.proofs.laws.one_meaning.Goals as goal

pub returns : goal.returns
returns c = one_meaning c.lexes_in_one_way.ensures c.one_derivation.ensures.one
