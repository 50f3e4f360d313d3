use Rattle.class_faces.proofs.Walking.{union_of}
use Rattle.class_faces.proofs.closure.union.Goals as goal

pub returns : goal.returns
returns c =
    union_of c.args.first.now c.args.second.now c.new-queue.result c.add_all.new.self c.add_all-2.new.self c.into_keys.result c.new-queue.ensures c.in_ok-add_all.ensures
    c.in_ok-add_all-2.ensures c.into_keys.ensures
