use Rattle.laws_tree_weights.proofs.RowCountLemmas.{counted}
use Rattle.laws_tree_weights.proofs.laws.filled_is_counted.Goals as goal

pub returns : goal.returns
returns c = counted
