use Rattle.source_model.specs.Flags.{event_flags}
use Rattle.source_flags.specs.declared.flag_rows.Row.TheVariants.{Property}
use Rattle.source_flags.proofs.FlagBounds.{low_is_all, row_fits}
use Rattle.source_flags.proofs.FlagLemmas.{narrowed}
use Rattle.source_flags.proofs.declared_flags.event_flags.Goals as goal

pub returns-clause-low : goal.returns-clause-low
returns-clause-low c s f r e = narrowed (event_flags s f) c.row_flags.result c.low.result (c.row_flags.ensures s f r e) c.low.ensures

pub returns-clause-all : goal.returns-clause-all
returns-clause-all c s f r e h = low_is_all (event_flags s f) 16 c.low.result (row_fits s Property f h) (narrowed (event_flags s f) c.row_flags.result c.low.result (c.row_flags.ensures s f r e) c.low.ensures)
