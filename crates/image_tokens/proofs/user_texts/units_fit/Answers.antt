use Rattle.image_tokens.proofs.LoadsLemmas.{all_fit}
use Rattle.image_tokens.proofs.user_texts.units_fit.Goals as goal

pub returns : goal.returns
returns c = all_fit c.args._units.now (λ k. (c.type_inv._units k).fits)
