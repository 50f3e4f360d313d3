use Rattle.std.proofs.Common.{ℕ, ◌+◌, ◌-◌, List, sym, ◌∙◌, ap}
use Rattle.std.specs.Prelude.{sum_by}
use Rattle.row_groups.specs.Ranges.{cell_of}
use Rattle.row_parts.proofs.OwnedRows.{owned_row}
use Rattle.image_weights.proofs.rows.charge_owned.Goals as goal

pub charge_rows-requires-clause-there : goal.charge_rows-requires-clause-there
charge_rows-requires-clause-there g c = λ k less.
    let rows = c.owned_rows-rows.result in
    let r = owned_row c.args.image.now c.args.table (cell_of c.args.table c.args.column) c.args.value rows.first rows.count k c.owned_rows-rows.ensures.rows less in
    c.requires.there (rows.first + k) r.0 r.1

pub returns : goal.returns
returns g c = c.charge_rows.ensures ∙ ap (λ (rows : List ℕ). c.args.left - sum_by (g.C.Charges.weight c.args.each.now) rows) (sym c.owned_rows-rows.ensures.rows)
