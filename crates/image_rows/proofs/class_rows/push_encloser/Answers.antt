use Rattle.image_rows.proofs.ClassRowLemmas.{nested_cells}
use Rattle.image_rows.proofs.class_rows.push_encloser.Goals as goal

pub push-requires-clause-cells : goal.push-requires-clause-cells
push-requires-clause-cells c = nested_cells c.row_of_columns.ensures c.args.row c.args.encloser
