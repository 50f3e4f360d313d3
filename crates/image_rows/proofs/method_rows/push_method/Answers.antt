use Rattle.std.proofs.Common.{rules}
use Rattle.image_rows.proofs.MethodRowLemmas.{method_row}
use Rattle.image_members.proofs.PushLemmas.{rows_one}
use Rattle.image_rows.proofs.method_rows.push_method.Goals as goal

pub push-requires-clause-cells : goal.push-requires-clause-cells
push-requires-clause-cells c = method_row c.row_of_columns.ensures c.args.rva c.from.result c.from-2.result c.args.declared.second c.args.declared.third c.args.run (search rules) (search rules) (search rules)
