use Rattle.std.proofs.Common.{◌≡◌, ap, sym, subst, ◌∙◌}
use Rattle.std.specs.Prelude.{IfOk}
use Rattle.source_nodes.specs.Derived.{FitsBody}
use Rattle.source_nodes.specs.Least.{least}
use Rattle.check_bodies.proofs.OperandLemmas.{at_number, at_real, at_variable}
use Rattle.check_bodies.proofs.operand_ranges.OperandRangesInstructionRule.first.Goals as goal

pub returns-in-316 : goal.returns-in-316
returns-in-316 c s n p r knows is =
    c.number.ensures s p r is.below-is ∙ ap least (sym (at_number s n.below p (is.production-is ∙ c.in-316.is)))

pub returns-in-317 : goal.returns-in-317
returns-in-317 c s n p r knows is =
    let form = is.production-is ∙ c.in-317.is in
    subst (λ ks. IfOk c.real.result (λ k. k ≡ least ks)) (sym (at_real s n.below p form))
    (c.real.ensures s p r (subst (λ q. FitsBody s q p.below) form is.fits) is.bodies is.below-is)

pub returns-in-315 : goal.returns-in-315
returns-in-315 c s n p r knows is =
    let form = is.production-is ∙ c.in-315.is in
    subst (λ ks. IfOk c.variable.result (λ k. k ≡ least ks)) (sym (at_variable s n.below p form))
    (c.variable.ensures s n.below p r (knows _ p is.at form) (subst (λ q. FitsBody s q p.below) form is.fits) is.bodies is.below-is)
