use Rattle.std.proofs.Common.{ap, sym, ◌∙◌}
use Rattle.source_nodes.specs.Least.{least}
use Rattle.check_bodies.specs.Sizes.{far_from, far_target}
use Rattle.check_bodies.proofs.ShortBranchLemmas.{far_is, short_name}
use Rattle.check_bodies.proofs.short_branches.ReachInstructionRule.first.Goals as goal

pub returns-in_ok-target-in-Some : goal.returns-in_ok-target-in-Some
returns-in_ok-target-in-Some c s n p r knows is =
    let offsets = c.args.self.now.offsets.now in
    let k = c.args.number in
    let token = c.in-Some.token in
    let target = sym c.in-Some.is ∙ c.short_target.ensures s p r is.production-is is.below-is in
    let name = short_name s p token is.fits is.bodies (sym target) in
    c.far_from.ensures
    ∙ ap (λ o. least (far_from offsets k o token)) (c.in_ok-target-in-Some.ensures s n.below r knows.0 name)
    ∙ ap (λ o. least (far_target s n.below offsets k o)) target
    ∙ ap least (far_is s n offsets k p knows.1 is.at)

pub returns-in-None : goal.returns-in-None
returns-in-None c s n p r knows is =
    let offsets = c.args.self.now.offsets.now in
    let k = c.args.number in
    let target = sym c.in-None.is ∙ c.short_target.ensures s p r is.production-is is.below-is in
    ap (λ o. least (far_target s n.below offsets k o)) target ∙ ap least (far_is s n offsets k p knows.1 is.at)
