use Rattle.std.proofs.Common.{List, ℕ, subst, sym}
use Rattle.told_weights.specs.Fresh.{NumberTypes}
use Rattle.image_lightness.proofs.fresh.fresh_with.Goals as goal

pub mark_interfaces-requires-clause-numbers : goal.mark_interfaces-requires-clause-numbers
mark_interfaces-requires-clause-numbers g c = subst (λ (n : List ℕ). NumberTypes c.args.image.now n) (sym c.as_slice.ensures) c.in_ok-types.ensures
