use Rattle.type_hierarchy.proofs.QueueLemmas.{adds_next}
use Rattle.class_faces.proofs.queue.Queue.add_all.Goals as goal

pub loop-key-preserved : goal.loop-key-preserved
loop-key-preserved c =
    adds_next c.args.self.now c.loop-key.self c.add.new.self c.args.keys.now c.loop-key.key-index c.key-item.result c.loop-key.invariant c.in_ok-add.ensures c.loop-key-test.true c.key-item.is
