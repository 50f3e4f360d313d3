use Rattle.std.proofs.Common.{sym, arith, ◌<◌, ◌^◌}
use Rattle.image_used.specs.Spreading.{IndexNames}
use Rattle.image_used.proofs.Spreading.{spreads_none}
use Rattle.image_used.proofs.Telling.{ready_more}
use Rattle.image_used.proofs.spread.Spread.mark_index.Goals as goal

pub returns-in-Some-clause-marked : goal.returns-in-Some-clause-marked
returns-in-Some-clause-marked c =
    spreads_none c.args.self.now.marks c.args.self.now.todo (IndexNames c.args.image.now c.args.table c.args.index)
    (λ t r n p. c.requires.ready.told c.args.table c.args.index c.in-Some.field-0 (omega arith) (sym (rw c.key-hash.ensures at c.in-Some.ensures)) t r n p)

pub returns-in_ok-insert-in-None-clause-ready : goal.returns-in_ok-insert-in-None-clause-ready
returns-in_ok-insert-in-None-clause-ready c =
    let small : c.args.table < 256 = omega arith in
    ready_more c.args.image.now c.args.self.now.marks c.mark_blob.new.self.marks c.args.self.now.todo c.mark_blob.new.self.todo c.args.self.now.seen c.insert.new.self c.args.table c.args.index c.key-hash.result small c.key-hash.ensures c.requires.ready
    c.in_ok-mark_blob-in-None.ensures.marked (rw c.mark_blob.ensures.seen at c.in_ok-insert-in-None.ensures.ok)
