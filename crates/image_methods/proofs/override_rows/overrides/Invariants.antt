use Rattle.std.proofs.Common.{◌-◌, cond, nat_eq, length}
use Rattle.image_model.specs.Columns.{override_declaration}
use Rattle.image_model.specs.Reading.{MethodIs}
use Rattle.image_source.specs.Names.{names_of}
use Rattle.image_methods.proofs.Overriding.{Led}
use Rattle.image_methods.proofs.override_rows.overrides.Given as goal

abbrev pub invariant-loop-at : goal.invariant-loop-at
invariant-loop-at l = Led l.source.image.now l.chains l.row (λ k. MethodIs (names_of l.source.kept.now) (override_declaration l.source.image.now k)) l.at l.all

abbrev pub decreases-loop-at : goal.decreases-loop-at
decreases-loop-at l = cond (nat_eq l.at 0) 0 (length l.chains - l.at)
