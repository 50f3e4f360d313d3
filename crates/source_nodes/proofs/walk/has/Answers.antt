use Rattle.std.proofs.Common.{◌∷◌, ap, ◌∙◌, arith}
use Rattle.source_model.specs.Forest.{is_any_part}
use Rattle.source_nodes.proofs.Walks.{all_left, left_of_leaf, left_of_branch, there_is, none_found}
use Rattle.source_nodes.proofs.walk.has.Goals as goal

pub loop-node-init : goal.loop-node-init
loop-node-init c =
    all_left c.derivations_are_forests.ensures c.forests_open.ensures c.forests_join.ensures c.args.nodes.now c.args.production c.requires

pub returns-then-p-production : goal.returns-then-p-production
returns-then-p-production c =
    there_is c.derivations_are_forests.ensures c.forests_open.ensures c.forests_join.ensures c.args.nodes.now c.args.production c.in-Branch.p
    c.in-Branch.nodes c.loop-node.left.now c.in-Some.rest.now (c.in-Some.ensures ∙ ap (λ n. n ∷ c.in-Some.rest.now) c.in-Branch.is) (grind arith) c.loop-node.invariant

pub loop-node-preserved : goal.loop-node-preserved
loop-node-preserved c =
    left_of_leaf c.derivations_are_forests.ensures c.forests_open.ensures c.forests_join.ensures c.args.nodes.now c.args.production c.in-Leaf.token
    c.loop-node.left.now c.in-Some.rest.now (c.in-Some.ensures ∙ ap (λ n. n ∷ c.in-Some.rest.now) c.in-Leaf.is) c.loop-node.invariant

pub returns : goal.returns
returns c f whole =
    ap is_any_part
    (none_found c.derivations_are_forests.ensures c.forests_open.ensures c.forests_join.ensures c.args.nodes.now c.args.production c.loop-node.left.now c.in_default.ensures c.loop-node.invariant f whole)

pub loop-node-preserved-in-Branch : goal.loop-node-preserved-in-Branch
loop-node-preserved-in-Branch c =
    left_of_branch c.derivations_are_forests.ensures c.forests_open.ensures c.forests_join.ensures c.args.nodes.now c.args.production c.in-Branch.p
    c.in-Branch.nodes c.loop-node.left.now c.in-Some.rest.now (c.in-Some.ensures ∙ ap (λ n. n ∷ c.in-Some.rest.now) c.in-Branch.is) (grind arith) c.loop-node.invariant
