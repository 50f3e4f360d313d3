use Rattle.std.proofs.Common.{◌∷◌, ap, ◌∙◌, refl}
use Rattle.source_model.specs.Forest.{first_token}
use Rattle.source_nodes.proofs.Walks.{asks_all, asks_into_branch, asked_at_leaf, first_inside}
use Rattle.source_nodes.proofs.walk.first_token.Goals as goal

pub loop-node-init : goal.loop-node-init
loop-node-init c =
    asks_all c.derivations_are_forests.ensures c.forests_open.ensures first_token first_token c.args.nodes.now c.requires

pub loop-node-preserved : goal.loop-node-preserved
loop-node-preserved c =
    asks_into_branch c.derivations_are_forests.ensures c.forests_open.ensures first_token first_token c.args.nodes.now c.forests_join.ensures
    _ _ c.loop-node.left.now c.in-Some.rest.now (λ b a. first_inside c.forests_join.ensures 0 b a) (c.in-Some.ensures ∙ ap (λ n. n ∷ c.in-Some.rest.now) c.in-Branch.is) c.loop-node.invariant

pub returns-in-Leaf : goal.returns-in-Leaf
returns-in-Leaf c f whole =
    asked_at_leaf c.derivations_are_forests.ensures c.forests_open.ensures first_token first_token c.args.nodes.now
    c.in-Leaf.token c.loop-node.left.now c.in-Some.rest.now (c.in-Some.ensures ∙ ap (λ n. n ∷ c.in-Some.rest.now) c.in-Leaf.is) c.loop-node.invariant
    c.in-Leaf.token (λ a. refl) f whole
