use Rattle.std.proofs.Common.{arith}
use Rattle.image_model.specs.Columns.{semantics_association}
use Rattle.image_model.specs.Rows.{rows_with}
use Rattle.row_parts.proofs.Orders.{semantics_ascend}
use Rattle.image_weights.proofs.RowSums.{long}
use Rattle.image_weights.proofs.accessor_rows.charge_accessors.Goals as goal

pub owned_rows-rows-requires-clause-order : goal.owned_rows-rows-requires-clause-order
owned_rows-rows-requires-clause-order c = semantics_ascend c.args.image.now c.requires.meets

pub returns : goal.returns
returns c =
    let rows = c.owned_rows-rows.result in
    let count = long (rows_with c.args.image.now 0x18 semantics_association c.args.index) rows.first rows.count c.owned_rows-rows.ensures.rows in
    let off = c.saturating_sub.ensures in
    omega (arith, count, off)
