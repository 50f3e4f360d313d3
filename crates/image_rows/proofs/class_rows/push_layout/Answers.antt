use Rattle.std.proofs.Common.{rules}
use Rattle.image_rows.proofs.ClassRowLemmas.{layout_cells}
use Rattle.image_rows.proofs.class_rows.push_layout.Goals as goal

pub push-requires-clause-cells : goal.push-requires-clause-cells
push-requires-clause-cells c = layout_cells c.row_of_columns.ensures c.from.result c.in-Some.of.size c.args.row (search rules) (search rules)
