use Rattle.std.proofs.Common.{nat_eq}
use Rattle.std.specs.HashSet.{contains}
use Rattle.type_order.proofs.QueueBoth.{queue_both}
use Rattle.type_order.proofs.queue.Queue.add.Goals as goal

pub invariant_of-self-in-Ok : goal.invariant_of-self-in-Ok
invariant_of-self-in-Ok c =
    queue_both c.self.inside.ids c.push.new.self c.args.id c.place-2.result (contains nat_eq c.self.inside.places) (contains nat_eq c.insert.new.self) c.self.invariant c.in_ok-push.ensures.ok c.place-2.ensures
    c.in-Ok.ensures.updates.0
