use Rattle.source_model.specs.Flags.{flags_of, parameter_flags_in, parameter_words}
use Rattle.source_flags.specs.declared.flag_rows.Row.TheVariants.{Parameter}
use Rattle.source_flags.proofs.FlagBounds.{low_is_all, row_fits}
use Rattle.source_flags.proofs.FlagLemmas.{narrowed}
use Rattle.source_flags.proofs.declared_flags.parameter_flags.Goals as goal

pub returns-clause-low : goal.returns-clause-low
returns-clause-low c s f r e = narrowed (flags_of s parameter_words (parameter_flags_in f)) c.row_flags.result c.low.result (c.row_flags.ensures s f r e) c.low.ensures

pub returns-clause-all : goal.returns-clause-all
returns-clause-all c s f r e h = low_is_all (flags_of s parameter_words (parameter_flags_in f)) 16 c.low.result (row_fits s Parameter f h) (narrowed (flags_of s parameter_words (parameter_flags_in f)) c.row_flags.result c.low.result (c.row_flags.ensures s f r e) c.low.ensures)
