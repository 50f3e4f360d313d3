use Rattle.source_model.specs.Flags.{assembly_flags_in, assembly_words, flags_of}
use Rattle.source_flags.specs.declared.flag_rows.Row.TheVariants.{Assembly}
use Rattle.source_flags.proofs.FlagBounds.{low_is_all, row_fits}
use Rattle.source_flags.proofs.declared_flags.assembly_flags.Goals as goal

pub returns-clause-all : goal.returns-clause-all
returns-clause-all c s f r e h = low_is_all (flags_of s assembly_words (assembly_flags_in f)) 32 c.row_flags.result (row_fits s Assembly f h) (c.row_flags.ensures s f r e)
