use Rattle.std.proofs.Common.{◌≡◌, ◌+◌, ◌<◌, sym, subst, IfOk, arith}
use Rattle.image_model.specs.Reading.{IsGiven}
use Rattle.image_model.specs.Rows.{rows_with}
use Rattle.row_groups.specs.Ranges.{cell_of}
use Rattle.row_parts.proofs.OwnedRows.{owned_row, few_owned}
use Rattle.row_parts.proofs.owned.read_given.Goals as goal

pub read_one-requires-clause-one : goal.read_one-requires-clause-one
read_one-requires-clause-one g c =
    few_owned (rows_with c.args.image.now c.args.table (cell_of c.args.table c.args.column) c.args.value) c.owned_rows-rows.result.first c.owned_rows-rows.result.count c.owned_rows-rows.ensures.rows c.requires.one

pub read_one-requires-clause-there : goal.read_one-requires-clause-there
read_one-requires-clause-there g c = λ one.
    let rows = c.owned_rows-rows.result in
    let some : 0 < rows.count = omega (arith, one) in
    let at : rows.first + 0 ≡ rows.first = omega arith in
    let r = owned_row c.args.image.now c.args.table (cell_of c.args.table c.args.column) c.args.value rows.first rows.count 0 c.owned_rows-rows.ensures.rows some in
    subst (g.P.Part.there c.args.part.now) at (c.requires.there (rows.first + 0) r.0 r.1)

pub returns : goal.returns
returns g c = subst (λ rows. IfOk c.read_one.result (IsGiven (g.P.Part.gives c.args.part.now) rows)) (sym c.owned_rows-rows.ensures.rows) c.read_one.ensures
