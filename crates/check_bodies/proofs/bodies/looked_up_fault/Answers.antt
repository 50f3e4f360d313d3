use Rattle.std.proofs.Common.{◌++◌, ◌∙◌}
use Rattle.source_model.specs.Instructions.{instructions_of}
use Rattle.source_nodes.proofs.PieceLemmas.{as_many}
use Rattle.check_bodies.specs.AllOfBodies.{ends_in, far_in, twice_in, undeclared_in}
use Rattle.check_visitor.proofs.LeastOfRules.{then_rule}
use Rattle.check_bodies.proofs.bodies.looked_up_fault.Goals as goal

pub returns : goal.returns
returns c s n r m e at names plain =
    let many = as_many c.args.method.now c.args.code.now (instructions_of n.below) at in
    let tokens = c.as_slice-tokens.ensures ∙ c.in_ok-targets.ensures (instructions_of n.below) at in
    let labels = c.in_ok-labels.ensures s n r m names at in
    let both = twice_in s n ++ undeclared_in s n in
    then_rule c.sooner.result c.sooner-to_branch.result c.in_ok-end.end (both ++ far_in s n) (ends_in s n) c.sooner.ensures
    (then_rule c.sooner-to_branch.result c.in_ok-label.label c.in_ok-far.far both (far_in s n) c.sooner-to_branch.ensures
    (c.in_ok-label.ensures s n r m e at tokens labels (λ is. (plain is).named))
    (c.in_ok-far.ensures s n r m e at labels))
    (c.in_ok-end.ensures s n r m many tokens labels)
