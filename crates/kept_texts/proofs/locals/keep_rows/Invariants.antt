use Rattle.kept_members.specs.Maps.{all_of, Adds}
use Rattle.kept_members.proofs.Adding.{Upto}
use Rattle.kept_texts.specs.Texts.{AreLocalsOf, AreInUse}
use Rattle.kept_texts.proofs.locals.keep_rows.Given as goal

abbrev pub invariant-loop-row : goal.invariant-loop-row
invariant-loop-row l = Adds (AreLocalsOf l.image l.known) (all_of l.fn.locals) (all_of l.locals) × Upto (AreInUse l.image) 0x11 l.row (all_of l.locals)
