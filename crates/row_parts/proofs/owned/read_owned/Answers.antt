use Rattle.std.proofs.Common.{◌+◌, sym, subst, IfOk}
use Rattle.std.specs.List.{AllZip}
use Rattle.row_groups.specs.Ranges.{cell_of}
use Rattle.row_parts.proofs.OwnedRows.{owned_row}
use Rattle.row_parts.proofs.owned.read_owned.Goals as goal

pub read_all-requires-clause-there : goal.read_all-requires-clause-there
read_all-requires-clause-there g c = λ k less.
    let rows = c.owned_rows-rows.result in
    let r = owned_row c.args.image.now c.args.table (cell_of c.args.table c.args.column) c.args.value rows.first rows.count k c.owned_rows-rows.ensures.rows less in
    c.requires.there (rows.first + k) r.0 r.1

pub returns : goal.returns
returns g c = subst (λ rows. IfOk c.read_all.result (AllZip (g.P.Part.gives c.args.part.now) rows)) (sym c.owned_rows-rows.ensures.rows) c.read_all.ensures
