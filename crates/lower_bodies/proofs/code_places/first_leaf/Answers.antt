use Rattle.std.proofs.Common.{◌∷◌, ap, ◌∙◌, refl}
use Rattle.source_model.specs.Forest.{first_token}
use Rattle.source_nodes.proofs.Walks.{asks_all, asks_into_branch, asked_at_leaf, first_inside}
use Rattle.lower_bodies.proofs.code_places.first_leaf.Goals as goal

pub loop-node-init : goal.loop-node-init
loop-node-init c whole = asks_all c.derivations_are_forests.ensures c.forests_open.ensures first_token first_token c.args.nodes.now whole

pub loop-node-preserved : goal.loop-node-preserved
loop-node-preserved c whole =
    asks_into_branch c.derivations_are_forests.ensures c.forests_open.ensures first_token first_token c.args.nodes.now c.forests_join.ensures
    _ _ c.loop-node.left.now c.in-Some.rest.now (λ b a. first_inside c.forests_join.ensures 0 b a) (c.in-Some.ensures ∙ ap (λ n. n ∷ c.in-Some.rest.now) c.in-Branch.is)
    (c.loop-node.invariant whole)

pub returns-in-Leaf : goal.returns-in-Leaf
returns-in-Leaf c f whole =
    asked_at_leaf c.derivations_are_forests.ensures c.forests_open.ensures first_token first_token c.args.nodes.now
    c.in-Leaf.token c.loop-node.left.now c.in-Some.rest.now (c.in-Some.ensures ∙ ap (λ n. n ∷ c.in-Some.rest.now) c.in-Leaf.is) (c.loop-node.invariant (f, whole))
    c.in-Leaf.token (λ a. refl) f whole
