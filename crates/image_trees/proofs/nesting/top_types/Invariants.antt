use Rattle.image_source.specs.Names.{names_of}
use Rattle.image_trees.proofs.Nested.{HoldTypes}
use Rattle.image_trees.proofs.nesting.top_types.Given as goal

abbrev pub invariant-loop-row : goal.invariant-loop-row
invariant-loop-row l = HoldTypes l.source.image.now (names_of l.source.kept.now) l.row l.lists.items

abbrev pub decreases-loop-row : goal.decreases-loop-row
decreases-loop-row l = l.row
