use Rattle.image_trees.proofs.Emptied.{empty_more}
use Rattle.image_trees.proofs.lists.empty_lists.Goals as goal

pub loop-made-preserved : goal.loop-made-preserved
loop-made-preserved g c = empty_more c.loop-made.lists.items c.push.new.self.items c.new.result c.loop-made.made c.loop-made.invariant c.new.ensures c.in_ok-push.ensures.items
