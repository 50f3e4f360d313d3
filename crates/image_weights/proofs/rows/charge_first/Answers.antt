use Rattle.std.proofs.Common.{◌≡◌, ℕ, ◌+◌, ◌-◌, ◌<◌, sym, ◌∙◌, ap, subst, arith}
use Rattle.image_model.specs.Rows.{rows_with}
use Rattle.row_groups.specs.Ranges.{cell_of}
use Rattle.row_parts.proofs.OwnedRows.{owned_row}
use Rattle.image_weights.proofs.RowSums.{none_first, some_first}
use Rattle.image_weights.proofs.rows.charge_first.Goals as goal

pub returns-then-rows-eq0 : goal.returns-then-rows-eq0
returns-then-rows-eq0 g c =
    let rows = c.owned_rows-rows.result in
    let none = none_first (g.C.Charges.weight c.args.each.now) (rows_with c.args.image.now c.args.table (cell_of c.args.table c.args.column) c.args.value) rows.first rows.count c.owned_rows-rows.ensures.rows c.if-rows-eq0.true in
    omega (arith, none)

pub charge-requires : goal.charge-requires
charge-requires g c =
    let rows = c.owned_rows-rows.result in
    let some : 0 < rows.count = (let n = c.if-rows-eq0.false in omega arith) in
    let at : rows.first + 0 ≡ rows.first = omega arith in
    let r = owned_row c.args.image.now c.args.table (cell_of c.args.table c.args.column) c.args.value rows.first rows.count 0 c.owned_rows-rows.ensures.rows some in
    subst (g.C.Charges.there c.args.each.now) at (c.requires.there (rows.first + 0) r.0 r.1)

pub returns : goal.returns
returns g c =
    let rows = c.owned_rows-rows.result in
    let some = some_first (g.C.Charges.weight c.args.each.now) (rows_with c.args.image.now c.args.table (cell_of c.args.table c.args.column) c.args.value) rows.first rows.count c.owned_rows-rows.ensures.rows c.if-rows-eq0.false in
    c.charge.ensures ∙ ap (λ (n : ℕ). c.args.left - n) (sym some)
