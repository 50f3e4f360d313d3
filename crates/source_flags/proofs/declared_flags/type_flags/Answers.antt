use Rattle.source_model.specs.Flags.{type_flags}
use Rattle.source_flags.specs.declared.flag_rows.Row.TheVariants.{Class}
use Rattle.source_flags.proofs.FlagBounds.{low_is_all, row_fits}
use Rattle.source_flags.proofs.declared_flags.type_flags.Goals as goal

pub returns-clause-all : goal.returns-clause-all
returns-clause-all c s f r e h = low_is_all (type_flags s f) 32 c.row_flags.result (row_fits s Class f h) (c.row_flags.ensures s f r e)
