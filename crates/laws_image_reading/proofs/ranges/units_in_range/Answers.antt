-- answers for src/ranges.rt
use Rattle.image_tokens.proofs.LoadsLemmas.{all_fit}
use Rattle.laws_image_reading.proofs.ranges.units_in_range.Goals as goal

pub returns : goal.returns
returns c = all_fit c.args._units.now (λ k. (c.type_inv._units k).fits)
