use Rattle.std.proofs.Common.{rules}
use Rattle.image_rows.proofs.ClassRowLemmas.{offset_cells}
use Rattle.image_rows.proofs.field_rows.push_offset.Goals as goal

pub push-requires-clause-cells : goal.push-requires-clause-cells
push-requires-clause-cells c = offset_cells c.row_of_columns.ensures c.in-Some.place c.args.row (search rules)
