use Rattle.image_trees.specs.Lists.{AreEmpty}
use Rattle.image_trees.proofs.lists.empty_lists.Given as goal

abbrev pub invariant-loop-made : goal.invariant-loop-made
invariant-loop-made g l = AreEmpty l.made l.lists.items
