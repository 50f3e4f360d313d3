use Rattle.std.proofs.Common.{◌∷◌, []}
use Rattle.ilasm_grammar.specs.declared.productions.TheConstants.{FIELD_ATTR_STAR_MORE, FIELD_ATTR_STAR_END}
use Rattle.source_model.specs.Flags.{field_flags, field_words, flags_in, flags_of}
use Rattle.source_model.specs.Forest.{child}
use Rattle.source_flags.specs.FlagRows.{row_flags}
use Rattle.source_flags.specs.declared.flag_rows.Row.TheVariants.{Field}
use Rattle.source_flags.proofs.FlagBounds.{fewer_fit, low_is_all, row_fits}
use Rattle.source_flags.proofs.FlagLemmas.{narrowed_without}
use Rattle.source_flags.proofs.declared_flags.field_flags.Goals as goal

pub returns-clause-low : goal.returns-clause-low
returns-clause-low c s f r e = narrowed_without (flags_of s field_words (flags_in FIELD_ATTR_STAR_MORE FIELD_ATTR_STAR_END (child (FIELD_ATTR_STAR_MORE ∷ []) f))) c.row_flags.result c.low-flags.result 0x8100 (c.row_flags.ensures s f r e) c.low-flags.ensures

pub returns-clause-all : goal.returns-clause-all
returns-clause-all c s f r e h = low_is_all (field_flags s f) 16 _ (fewer_fit (row_flags s Field f) 0x8100 16 (row_fits s Field f h)) (narrowed_without (flags_of s field_words (flags_in FIELD_ATTR_STAR_MORE FIELD_ATTR_STAR_END (child (FIELD_ATTR_STAR_MORE ∷ []) f))) c.row_flags.result c.low-flags.result 0x8100 (c.row_flags.ensures s f r e) c.low-flags.ensures)
