use Rattle.lower_methods.proofs.WholeLemmas.{all_whole}
use Rattle.lower_methods.proofs.laws.faultless_sources_are_whole.Goals as goal

pub returns : goal.returns
returns c s d h = all_whole c.all_are_in_range.ensures c.tokens_stand_in_order.ensures s d h
