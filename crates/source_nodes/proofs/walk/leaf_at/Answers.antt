use Rattle.std.proofs.Common.{◌∷◌, ◌-◌, ap, sym, ◌∙◌, refl, subst, arith}
use Rattle.source_model.specs.Forest.{leaf_at}
use Rattle.source_nodes.proofs.Walks.{Asks, asks_all, asks_past_leaf, asks_past_branch, asked_at_leaf, count_fits, leaf_past, leaf_here}
use Rattle.source_nodes.proofs.walk.leaf_at.Goals as goal

pub loop-node-init : goal.loop-node-init
loop-node-init c =
    asks_all c.derivations_are_forests.ensures c.forests_open.ensures (leaf_at c.args.k) (leaf_at c.args.k) c.args.nodes.now c.requires

pub split_at-requires : goal.split_at-requires
split_at-requires c =
    count_fits c.derivations_are_forests.ensures c.forests_open.ensures (leaf_at c.loop-node.before) (leaf_at c.args.k) c.args.nodes.now
    _ c.in-Branch.count c.loop-node.left.now c.in-Some.rest.now (c.in-Some.ensures ∙ ap (λ n. n ∷ c.in-Some.rest.now) c.in-Branch.is) c.loop-node.invariant

pub loop-node-preserved-in-Branch : goal.loop-node-preserved-in-Branch
loop-node-preserved-in-Branch c =
    subst (λ left. Asks (leaf_at c.loop-node.before) (leaf_at c.args.k) c.args.nodes.now left) (sym c.split_at.ensures.back)
    (asks_past_branch c.derivations_are_forests.ensures c.forests_open.ensures (leaf_at c.loop-node.before) (leaf_at c.args.k) c.args.nodes.now
    _ c.in-Branch.count c.loop-node.left.now c.in-Some.rest.now (λ b a. refl) (c.in-Some.ensures ∙ ap (λ n. n ∷ c.in-Some.rest.now) c.in-Branch.is) c.loop-node.invariant)

pub returns-then-before-eq0 : goal.returns-then-before-eq0
returns-then-before-eq0 c f whole =
    asked_at_leaf c.derivations_are_forests.ensures c.forests_open.ensures (leaf_at c.loop-node.before) (leaf_at c.args.k) c.args.nodes.now
    c.in-Leaf.token c.loop-node.left.now c.in-Some.rest.now (c.in-Some.ensures ∙ ap (λ n. n ∷ c.in-Some.rest.now) c.in-Leaf.is) c.loop-node.invariant
    c.in-Leaf.token (λ a. leaf_here c.loop-node.before c.in-Leaf.token a (grind arith)) f whole

pub loop-node-preserved : goal.loop-node-preserved
loop-node-preserved c =
    asks_past_leaf c.derivations_are_forests.ensures c.forests_open.ensures (leaf_at c.loop-node.before) (leaf_at c.args.k) c.args.nodes.now
    (leaf_at (c.loop-node.before - 1)) c.in-Leaf.token c.loop-node.left.now c.in-Some.rest.now
    (λ a. leaf_past c.loop-node.before c.in-Leaf.token a (grind arith)) (c.in-Some.ensures ∙ ap (λ n. n ∷ c.in-Some.rest.now) c.in-Leaf.is) c.loop-node.invariant
