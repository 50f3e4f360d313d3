use Rattle.row_demands.proofs.Tables.{none_past}
use Rattle.value_rows.proofs.values.rows_stand_in_tables.Goals as goal

pub returns : goal.returns
returns c table row past there = none_past c.args.image.now c.tables-tables.ensures.meets table row past there
