use Rattle.std.proofs.Common.{ℕ, List, sym, subst}
use Rattle.image_reader.specs.Outcome.{AreSizes}
use Rattle.image_reader.proofs.Trees.{can_measure, values_hold}
use Rattle.image_reader.proofs.whole.tree_of.Goals as goal

pub data_sizes-requires-clause-can : goal.data_sizes-requires-clause-can
data_sizes-requires-clause-can c = can_measure c.args.image.now c.requires.small c.tables-tables.ensures.meets c.requires.meets

pub data_sizes-requires-clause-values : goal.data_sizes-requires-clause-values
data_sizes-requires-clause-values c = values_hold c.args.image.now c.requires.small c.tables-tables.ensures.meets c.requires.meets

pub tree_by-requires-clause-sizes : goal.tree_by-requires-clause-sizes
tree_by-requires-clause-sizes c = subst (λ (s : List ℕ). AreSizes c.args.image.now s) (sym c.as_slice.ensures.value) c.in_ok-sizes.ensures
