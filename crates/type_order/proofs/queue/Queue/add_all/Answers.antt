use Rattle.type_hierarchy.proofs.QueueLemmas.{adds_next}
use Rattle.type_order.proofs.queue.Queue.add_all.Goals as goal

pub loop-id-preserved : goal.loop-id-preserved
loop-id-preserved c =
    adds_next c.args.self.now c.loop-id.self c.add.new.self c.args.ids.now c.loop-id.id-index c.id-item.result c.loop-id.invariant c.in_ok-add.ensures c.loop-id-test.true c.id-item.is
