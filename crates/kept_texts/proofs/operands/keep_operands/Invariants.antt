use Rattle.image_model.specs.Naming.{NamesText}
use Rattle.kept_members.specs.Maps.{all_of, Adds}
use Rattle.kept_texts.proofs.Texts.{Firsts}
use Rattle.kept_texts.proofs.operands.keep_operands.Given as goal

abbrev pub invariant-loop-one : goal.invariant-loop-one
invariant-loop-one l = Adds (NamesText l.image) (all_of l.fn.texts) (all_of l.texts) × Firsts l.image l.uses l.one-index (all_of l.texts)
