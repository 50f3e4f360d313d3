use Rattle.std.proofs.Common.{rules, ◌+◌}
use Rattle.image_rows.proofs.AccessorLemmas.{semantics_cells}
use Rattle.image_rows.proofs.semantics_rows.push_accessor.Goals as goal

pub push-requires-clause-cells : goal.push-requires-clause-cells
push-requires-clause-cells c = semantics_cells c.row_of_columns.ensures c.from.result (c.args.first + c.args.accessor.method) c.args.association (search rules)
