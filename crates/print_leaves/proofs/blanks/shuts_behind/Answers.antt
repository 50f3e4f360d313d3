use Rattle.std.proofs.Common.{◌≡◌, Bool, true, false, ◌||◌, refl, ap, sym, ◌∙◌}
use Rattle.listing_model.specs.Text.{shuts_behind}
use Rattle.print_leaves.proofs.blanks.shuts_behind.Goals as goal

or_false : (b : Bool) → b ≡ (b || false)
or_false true = refl
or_false false = refl

pub returns-in-Word : goal.returns-in-Word
returns-in-Word c = c.is_among.ensures ∙ (or_false _ ∙ ap shuts_behind (sym c.in-Word.is))
