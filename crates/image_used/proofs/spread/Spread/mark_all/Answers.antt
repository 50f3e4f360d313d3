use Rattle.std.proofs.Common.{sym}
use Rattle.method_states.specs.Marks.{IsMarked}
use Rattle.image_used.proofs.Spreading.{on_both}
use Rattle.image_used.proofs.Telling.{ready_kept}
use Rattle.image_used.proofs.Going.{going_on, used_by_body}
use Rattle.image_used.proofs.Ending.{going_first, used_at_end}
use Rattle.image_used.proofs.spread.Spread.mark_all.Goals as goal

pub mark_declared-requires : goal.mark_declared-requires
mark_declared-requires c =
    let m = c.args.self.now in
    let n = c.mark_by_bodies.new.self in
    going_on c.args.image.now m.marks n.marks m.todo n.todo m.seen n.seen (IsMarked c.args.named.now) (going_first c.args.image.now m.marks m.todo m.seen c.requires.ready c.requires.none c.requires.waits) c.in_ok-mark_by_bodies.ensures.marked
    (ready_kept c.args.image.now m.marks n.marks m.todo n.todo m.seen n.seen (IsMarked c.args.named.now) c.requires.ready c.in_ok-mark_by_bodies.ensures.marked c.mark_by_bodies.ensures.seen) (λ t r h p. used_by_body c.args.image.now c.args.named.now c.requires.named t r h)

pub mark_waiting-requires : goal.mark_waiting-requires
mark_waiting-requires c = c.in_ok-mark_declared.ensures.going

pub returns : goal.returns
returns c =
    let m = c.args.self.now in
    let n = c.mark_by_bodies.new.self in
    let k = c.mark_declared.new.self in
    let e = c.mark_waiting.new.self in
    on_both c.mark_waiting.result c.mark_waiting.ensures.going c.mark_waiting.ensures.done
    (λ passed none. used_at_end c.args.image.now c.tables-tables.ensures.meets c.args.named.now c.requires.named m.marks n.marks k.marks e.marks m.todo n.todo k.todo e.todo k.seen e.seen c.requires.ready.room c.in_ok-mark_by_bodies.ensures.marked c.in_ok-mark_declared.ensures none passed)
