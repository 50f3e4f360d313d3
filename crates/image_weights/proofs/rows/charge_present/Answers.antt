use Rattle.std.proofs.Common.{arith}
use Rattle.image_model.specs.Rows.{rows_with}
use Rattle.row_groups.specs.Ranges.{cell_of}
use Rattle.image_weights.proofs.RowSums.{none_first, some_first}
use Rattle.image_weights.proofs.rows.charge_present.Goals as goal

pub returns-then-rows-eq0 : goal.returns-then-rows-eq0
returns-then-rows-eq0 c =
    let rows = c.owned_rows-rows.result in
    let none = none_first (λ k. 64) (rows_with c.args.image.now c.args.table (cell_of c.args.table c.args.column) c.args.value) rows.first rows.count c.owned_rows-rows.ensures.rows c.if-rows-eq0.true in
    omega (arith, none)

pub returns : goal.returns
returns c =
    let rows = c.owned_rows-rows.result in
    let some = some_first (λ k. 64) (rows_with c.args.image.now c.args.table (cell_of c.args.table c.args.column) c.args.value) rows.first rows.count c.owned_rows-rows.ensures.rows c.if-rows-eq0.false in
    let off = c.saturating_sub.ensures in
    omega (arith, some, off)
