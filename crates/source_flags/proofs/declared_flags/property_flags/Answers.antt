use Rattle.source_model.specs.Flags.{property_flags, property_flags_of}
use Rattle.source_flags.specs.FlagRows.{row_flags}
use Rattle.source_flags.specs.declared.flag_rows.Row.TheVariants.{Property}
use Rattle.source_flags.proofs.FlagBounds.{fewer_fit, low_is_all, row_fits}
use Rattle.source_flags.proofs.FlagLemmas.{narrowed_without}
use Rattle.source_flags.proofs.declared_flags.property_flags.Goals as goal

pub returns-clause-low : goal.returns-clause-low
returns-clause-low c s f r e = narrowed_without (property_flags_of s f) c.row_flags.result c.low-flags.result 0x1000 (c.row_flags.ensures s f r e) c.low-flags.ensures

pub returns-clause-all : goal.returns-clause-all
returns-clause-all c s f r e h = low_is_all (property_flags s f) 16 _ (fewer_fit (row_flags s Property f) 0x1000 16 (row_fits s Property f h)) (narrowed_without (property_flags_of s f) c.row_flags.result c.low-flags.result 0x1000 (c.row_flags.ensures s f r e) c.low-flags.ensures)
