use Rattle.std.proofs.Common.{◌++◌, []}
use Rattle.source_model.specs.Nodes.{nothing_around}
use Rattle.check_visitor.specs.Surroundings.{found_in}
use Rattle.check_visitor.proofs.LeastOfRules.{then_rule}
use Rattle.check_bodies.specs.AllOfBodies.{body_broken}
use Rattle.check_members.specs.MemberKinds.{twice_within}
use Rattle.check_names.specs.AllOfParts.{broken_at}
use Rattle.check_source.proofs.passes.tree_fault.Goals as goal

pub returns : goal.returns
returns c s f r d is stands =
    let declared = c.args.declared.now in
    let bodies = found_in body_broken s nothing_around f in
    let parts = found_in (broken_at declared.externs.names declared.own.names declared.classes.paths declared.labels.names) s nothing_around f in
    then_rule c.sooner.result c.sooner-to_parts.result c.in_ok-members.members (bodies ++ parts) (twice_within s [] f) c.sooner.ensures
    (then_rule c.sooner-to_parts.result c.in_ok-bodies.bodies c.in_ok-parts.parts bodies parts c.sooner-to_parts.ensures
    (c.in_ok-bodies.ensures s f r is stands)
    (c.in_ok-parts.ensures s f r is stands.bodies))
    (c.in_ok-members.ensures s f r d.externs d.own (c.signatures_of-rule.ensures s d.externs d.own d.classes) is stands.bodies)
