use Rattle.std.proofs.Common.{ap, sym, ◌∙◌}
use Rattle.listing_model.specs.Text.{shuts_before}
use Rattle.print_leaves.proofs.blanks.shuts_before.Goals as goal

pub returns-in-Word : goal.returns-in-Word
returns-in-Word c = c.is_among.ensures ∙ ap shuts_before (sym c.in-Word.is)
