use Rattle.row_groups.proofs.Ranges.{rows_between, bounds_rise}
use Rattle.row_groups.proofs.owned.owned_rows.Goals as goal

pub returns-clause-rows : goal.returns-clause-rows
returns-clause-rows c =
    let a = c.first_from-first.ensures in
    let b = c.first_from-end.ensures in
    let order = bounds_rise c.args.image.now c.args.table c.args.column c.args.value c.first_from-first.result c.first_from-end.result b.some a.within a.before b.behind in
    rows_between c.args.image.now c.args.table c.args.column c.args.value c.first_from-first.result c.first_from-end.result a.some order b.within a.before a.behind b.before b.behind
