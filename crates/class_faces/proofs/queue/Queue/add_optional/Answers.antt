use Rattle.type_hierarchy.proofs.QueueLemmas.{adds_one}
use Rattle.class_faces.proofs.queue.Queue.add_optional.Goals as goal

pub returns-in_ok-add-in-Some : goal.returns-in_ok-add-in-Some
returns-in_ok-add-in-Some c = rw c.in-Some.is (adds_one c.args.self.now c.add.new.self c.in-Some.key c.in_ok-add-in-Some.ensures)
