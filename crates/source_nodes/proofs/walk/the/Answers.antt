use Rattle.std.proofs.Common.{◌∷◌, ap, ◌∙◌, arith}
use Rattle.source_model.specs.Forest.{none, preorder, first_or, below_each}
use Rattle.source_nodes.proofs.Walks.{all_left, left_of_leaf, left_of_branch, first_is, fits_rest, none_found}
use Rattle.source_nodes.proofs.walk.the.Goals as goal

pub loop-node-init : goal.loop-node-init
loop-node-init c =
    all_left c.derivations_are_forests.ensures c.forests_open.ensures c.forests_join.ensures c.args.nodes.now c.args.production c.requires

pub split_at-requires : goal.split_at-requires
split_at-requires c =
    fits_rest c.derivations_are_forests.ensures c.forests_open.ensures c.forests_join.ensures c.args.nodes.now c.args.production c.in-Branch.p
    c.in-Branch.count c.loop-node.left.now c.in-Some.rest.now (c.in-Some.ensures ∙ ap (λ n. n ∷ c.in-Some.rest.now) c.in-Branch.is) c.loop-node.invariant

pub returns-then-p-production : goal.returns-then-p-production
returns-then-p-production c f whole =
    c.split_at.ensures.front
    ∙ first_is c.derivations_are_forests.ensures c.forests_open.ensures c.forests_join.ensures c.args.nodes.now c.args.production c.in-Branch.p
    c.in-Branch.count c.loop-node.left.now c.in-Some.rest.now (c.in-Some.ensures ∙ ap (λ n. n ∷ c.in-Some.rest.now) c.in-Branch.is) (grind arith) c.loop-node.invariant f whole

pub loop-node-preserved : goal.loop-node-preserved
loop-node-preserved c =
    left_of_leaf c.derivations_are_forests.ensures c.forests_open.ensures c.forests_join.ensures c.args.nodes.now c.args.production c.in-Leaf.token
    c.loop-node.left.now c.in-Some.rest.now (c.in-Some.ensures ∙ ap (λ n. n ∷ c.in-Some.rest.now) c.in-Leaf.is) c.loop-node.invariant

pub returns : goal.returns
returns c f whole =
    ap (λ ps. preorder (first_or none (below_each ps)))
    (none_found c.derivations_are_forests.ensures c.forests_open.ensures c.forests_join.ensures c.args.nodes.now c.args.production c.loop-node.left.now c.in_default.ensures c.loop-node.invariant f whole)

pub loop-node-preserved-in-Branch : goal.loop-node-preserved-in-Branch
loop-node-preserved-in-Branch c =
    left_of_branch c.derivations_are_forests.ensures c.forests_open.ensures c.forests_join.ensures c.args.nodes.now c.args.production c.in-Branch.p
    c.in-Branch.count c.loop-node.left.now c.in-Some.rest.now (c.in-Some.ensures ∙ ap (λ n. n ∷ c.in-Some.rest.now) c.in-Branch.is) (grind arith) c.loop-node.invariant
