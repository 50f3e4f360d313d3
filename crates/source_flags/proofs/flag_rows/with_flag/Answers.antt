use Rattle.std.proofs.Common.{sym, ◌∙◌}
use Rattle.source_model.specs.Forest.{part}
use Rattle.source_flags.specs.FlagRows.{words_of}
use Rattle.source_flags.proofs.FlagLemmas.{number_added}
use Rattle.source_flags.proofs.flag_rows.with_flag.Goals as goal

pub returns-then-is_number : goal.returns-then-is_number
returns-then-is_number c s f r e =
    number_added s (words_of c.args.row) c.args.flags c.ranges.flags.fits (part c.args.production f) (sym (c.is_number.ensures f e) ∙ c.if-is_number.true)
    c.flags_number.result (c.flags_number.ensures s f r e)
