use Rattle.image_model.specs.Naming.{NamesText}
use Rattle.kept_members.specs.Maps.{all_of, Adds}
use Rattle.kept_texts.specs.Texts.{HasTextsTo}
use Rattle.kept_texts.proofs.user_strings.keep_of_methods.Given as goal

abbrev pub invariant-loop-row : goal.invariant-loop-row
invariant-loop-row l = Adds (NamesText l.image) (all_of l.fn.texts) (all_of l.texts) × HasTextsTo l.image (all_of l.texts) l.row
