use Rattle.std.proofs.Common.{◌∷◌, ap, sym, subst, ◌∙◌}
use Rattle.elaborate.proofs.StandingLemmas.{Walked, begins, ends, into_branch, past_leaf, past_shut}
use Rattle.elaborate.proofs.standing.find_standing.Goals as goal

pub loop-node-init : goal.loop-node-init
loop-node-init c = begins c.derivations_are_forests.ensures c.forests_open.ensures c.forests_join.ensures c.args.nodes.now c.args.first c.args.second c.requires

pub split_at-requires : goal.split_at-requires
split_at-requires c =
    let w = c.loop-node.invariant in
    (c.forests_open.ensures.branch w.rest c.in-Branch.production c.in-Branch.count c.in-Some.rest.now
    (w.is ∙ c.in-Some.ensures ∙ ap (λ n. n ∷ c.in-Some.rest.now) c.in-Branch.is)).within

pub loop-node-preserved-then-is_passed : goal.loop-node-preserved-then-is_passed
loop-node-preserved-then-is_passed c =
    let is = c.in-Some.ensures ∙ ap (λ n. n ∷ c.in-Some.rest.now) c.in-Branch.is in
    subst (λ ns. Walked c.args.first c.args.second c.args.nodes.now ns c.with-found.result) (sym c.split_at.ensures.back)
    (past_shut c.derivations_are_forests.ensures c.forests_open.ensures c.forests_join.ensures c.args.nodes.now c.args.first c.args.second
    c.loop-node.left.now c.in-Some.rest.now c.loop-node.found c.with-found.result c.in-Branch.production c.in-Branch.count is
    (sym c.is_passed.ensures ∙ c.if-is_passed.true) (record { first-is = c.with-found.ensures.first_is; second-is = c.with-found.ensures.second_is }) c.loop-node.invariant)

pub loop-node-preserved-else-is_passed : goal.loop-node-preserved-else-is_passed
loop-node-preserved-else-is_passed c =
    let is = c.in-Some.ensures ∙ ap (λ n. n ∷ c.in-Some.rest.now) c.in-Branch.is in
    into_branch c.derivations_are_forests.ensures c.forests_open.ensures c.forests_join.ensures c.args.nodes.now c.args.first c.args.second
    c.loop-node.left.now c.in-Some.rest.now c.loop-node.found c.with-found.result c.in-Branch.production c.in-Branch.count is
    (sym c.is_passed.ensures ∙ c.if-is_passed.false) (record { first-is = c.with-found.ensures.first_is; second-is = c.with-found.ensures.second_is }) c.loop-node.invariant

pub loop-node-preserved : goal.loop-node-preserved
loop-node-preserved c =
    past_leaf c.derivations_are_forests.ensures c.forests_open.ensures c.forests_join.ensures c.args.nodes.now c.args.first c.args.second
    c.loop-node.left.now c.in-Some.rest.now c.loop-node.found c.in-Leaf.token (c.in-Some.ensures ∙ ap (λ n. n ∷ c.in-Some.rest.now) c.in-Leaf.is) c.loop-node.invariant

pub returns : goal.returns
returns c f whole =
    ends c.derivations_are_forests.ensures c.forests_open.ensures c.forests_join.ensures c.args.nodes.now c.args.first c.args.second
    c.loop-node.left.now c.loop-node.found c.in_default.ensures c.loop-node.invariant f whole
