use Rattle.std.proofs.Common.{◌∙◌, ◌⊎◌}
use Rattle.method_states.specs.Marks.{IsMarked}
use Rattle.image_used.proofs.Spreading.{on_ok, spreads_then, spreads_both}
use Rattle.image_used.proofs.Telling.{In, all_in, in_all}
use Rattle.image_used.proofs.spread.Spread.mark_by_bodies.Goals as goal

pub returns-clause-marked : goal.returns-clause-marked
returns-clause-marked c =
    let image = c.args.image.now in
    let named = c.args.named.now in
    let of = In image named c.requires in
    let m = c.args.self.now.marks in
    let q = c.args.self.now.todo in
    let a = c.mark_table.new.self in
    let b = c.mark_table-2.new.self in
    let d = c.mark_table-3.new.self in
    let e = c.mark_table-4.new.self in
    on_ok c.mark_table-4.result c.mark_table-4.ensures.marked
    (λ last.
    spreads_both m b.marks e.marks q b.todo e.todo (λ t r. of 0x0A t r ⊎ of 0x11 t r) (λ t r. of 0x1B t r ⊎ of 0x2B t r) (IsMarked named) (all_in image named c.requires) (in_all image named c.requires)
    (spreads_then m a.marks b.marks q a.todo b.todo (of 0x0A) (of 0x11) c.in_ok-mark_table.ensures.marked c.in_ok-mark_table-2.ensures.marked)
    (spreads_then b.marks d.marks e.marks b.todo d.todo e.todo (of 0x1B) (of 0x2B) c.in_ok-mark_table-3.ensures.marked last))
