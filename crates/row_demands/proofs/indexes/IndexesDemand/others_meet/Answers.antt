use Rattle.row_demands.proofs.Tables.{law_at}
use Rattle.row_demands.proofs.indexes.IndexesDemand.others_meet.Goals as goal

pub returns : goal.returns
returns c table row past there = absurd (law_at c.self.inside.image.now c.args.self.now c.self.view_is c.rows_stand_in_tables.ensures table row past there)
