use Rattle.std.proofs.Common.{arith, refl, ◌∙◌, ◌≤◌, length, rules}
use Rattle.metadata_tables.specs.Schema.{columns_of}
use Rattle.image_used.specs.Spreading.{CellsName}
use Rattle.image_used.proofs.Spreading.{spreads_none}
use Rattle.image_used.proofs.Telling.{cell_more, cells_all}
use Rattle.image_used.proofs.spread.Spread.mark_cells.Goals as goal

pub loop-number-init : goal.loop-number-init
loop-number-init c = (
  spreads_none c.args.self.now.marks c.args.self.now.todo (CellsName c.args.image.now c.args.table c.args.row 0) (λ t r n p. absurd (let l = n.1 in omega arith)),
  refl,
)

pub loop-number-preserved : goal.loop-number-preserved
loop-number-preserved c = (
  cell_more c.args.image.now c.args.table c.args.row c.loop-number.number (search rules) (search rules) c.loop-number.invariant.0 c.in_ok-mark_cell.ensures.marked,
  c.mark_cell.ensures.seen ∙ c.loop-number.invariant.1,
)

pub returns-clause-marked : goal.returns-clause-marked
returns-clause-marked c =
    let low : c.loop-number.number ≤ length (columns_of c.args.table) = search rules in
    let high : length (columns_of c.args.table) ≤ c.loop-number.number = search rules in
    cells_all c.args.self.now.marks c.loop-number.self.marks c.args.self.now.todo c.loop-number.self.todo c.args.image.now c.args.table c.args.row c.loop-number.number low high c.loop-number.invariant.0
