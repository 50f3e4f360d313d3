use Rattle.std.proofs.Common.{arith, refl, ◌+◌, ◌≡◌, ◌<◌, rules}
use Rattle.image_model.specs.Rows.{count_of}
use Rattle.image_used.specs.Going.{RowsTo, RowsOf}
use Rattle.image_used.proofs.Going.{passed_none, passed_row, passed_as, rows_to}
use Rattle.image_used.proofs.spread.Spread.mark_by_rows.Goals as goal

pub loop-row-init : goal.loop-row-init
loop-row-init c =
    passed_none c.args.image.now c.args.self.now.marks c.args.self.now.todo c.args.self.now.seen (RowsTo c.args.table 0) c.requires.going (λ t r n. let l = n.1 in let k = n.2 in omega arith)

pub mark_named-requires-clause-ready : goal.mark_named-requires-clause-ready
mark_named-requires-clause-ready c = c.loop-row.invariant.going.ready

pub loop-row-preserved : goal.loop-row-preserved
loop-row-preserved c =
    let some : c.loop-row.row < count_of c.args.image.now c.args.table = search rules in
    passed_row c.args.image.now c.args.self.now.marks c.loop-row.self.marks c.mark_named.new.self.marks c.loop-row.self.todo c.mark_named.new.self.todo c.loop-row.self.seen c.mark_named.new.self.seen c.args.table c.loop-row.row (c.loop-row.row + 1) refl
    c.requires.other (omega arith, omega arith) c.loop-row.invariant c.in_ok-mark_named.ensures.marked c.in_ok-mark_named.ensures.ready

pub returns : goal.returns
returns c =
    let all : c.loop-row.row ≡ count_of c.args.image.now c.args.table = search rules in
    passed_as c.args.image.now c.args.self.now.marks c.loop-row.self.marks c.loop-row.self.todo c.loop-row.self.seen (RowsTo c.args.table c.loop-row.row) (RowsOf c.args.image.now c.args.table) (rows_to c.args.image.now c.args.table c.loop-row.row (omega arith))
    c.loop-row.invariant
