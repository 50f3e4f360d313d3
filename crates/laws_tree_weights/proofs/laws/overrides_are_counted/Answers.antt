use Rattle.laws_tree_weights.proofs.OverrideLemmas.{counted}
use Rattle.laws_tree_weights.proofs.laws.overrides_are_counted.Goals as goal

pub returns : goal.returns
returns c = counted
