-- answers for src/laws.rt
use Rattle.laws_image_reading.proofs.order.FormedMethods.{all_rising}
use Rattle.laws_image_reading.proofs.order.Runs.{has_runs}
use Rattle.laws_image_reading.proofs.order_laws.runs_hold.Goals as goal

pub returns : goal.returns
returns c = λ a classes r tables code entry id kind image f l formed names.
    let rows = c.rows_are_read.ensures a classes r tables code image f (c.tables_are_read.ensures r tables id image l.metadata) in
    has_runs c.indexes_fit.ensures a classes r code image rows (c.runs_are_read.ensures a classes r code image rows) (all_rising a classes f.classes_are formed)
