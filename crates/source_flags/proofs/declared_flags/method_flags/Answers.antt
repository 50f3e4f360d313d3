use Rattle.source_model.specs.Flags.{method_flags}
use Rattle.source_flags.specs.declared.flag_rows.Row.TheVariants.{Method}
use Rattle.source_flags.proofs.FlagBounds.{low_is_all, row_fits}
use Rattle.source_flags.proofs.FlagLemmas.{narrowed}
use Rattle.source_flags.proofs.declared_flags.method_flags.Goals as goal

pub returns-clause-low : goal.returns-clause-low
returns-clause-low c s f r e = narrowed (method_flags s f) c.row_flags.result c.low.result (c.row_flags.ensures s f r e) c.low.ensures

pub returns-clause-all : goal.returns-clause-all
returns-clause-all c s f r e h = low_is_all (method_flags s f) 16 c.low.result (row_fits s Method f h) (narrowed (method_flags s f) c.row_flags.result c.low.result (c.row_flags.ensures s f r e) c.low.ensures)
