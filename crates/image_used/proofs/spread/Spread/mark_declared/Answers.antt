use Rattle.std.proofs.Common.{arith, ℕ, ◌≤◌, subst, ◌≡◌}
use Rattle.image_used.specs.Going.{OthersBelow}
use Rattle.image_used.proofs.Going.{passed_none, passed_table, passed_as}
use Rattle.image_used.proofs.spread.Spread.mark_declared.Goals as goal

pub loop-table-init : goal.loop-table-init
loop-table-init c =
    passed_none c.args.image.now c.args.self.now.marks c.args.self.now.todo c.args.self.now.seen (OthersBelow c.args.image.now 0) c.requires (λ t r n. let l = n.0 in omega arith)

pub mark_by_table-requires : goal.mark_by_table-requires
mark_by_table-requires c = c.loop-table.invariant.going

pub loop-table-preserved : goal.loop-table-preserved
loop-table-preserved c =
    passed_table c.args.image.now c.args.self.now.marks c.loop-table.self.marks c.mark_by_table.new.self.marks c.loop-table.self.todo c.mark_by_table.new.self.todo c.loop-table.self.seen c.mark_by_table.new.self.seen c.loop-table.table c.loop-table.invariant
    c.in_ok-mark_by_table.ensures

pub returns : goal.returns
returns c =
    passed_as c.args.image.now c.args.self.now.marks c.loop-table.self.marks c.loop-table.self.todo c.loop-table.self.seen (OthersBelow c.args.image.now c.loop-table.table) (OthersBelow c.args.image.now 45)
    (λ t r n. (let l = n.0 in omega arith, n.1, n.2)) c.loop-table.invariant
