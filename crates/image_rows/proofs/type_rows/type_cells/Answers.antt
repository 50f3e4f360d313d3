use Rattle.std.proofs.Common.{rules}
use Rattle.image_rows.proofs.TypeRowLemmas.{type_cells}
use Rattle.image_rows.proofs.type_rows.type_cells.Goals as goal

pub returns-clause-row : goal.returns-clause-row
returns-clause-row c = type_cells c.row_of_columns.ensures c.args.flags c.args.declared.second c.args.declared.third c.args.base c.run_cell.result c.run_cell-2.result (search rules)
