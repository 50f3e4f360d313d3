use Rattle.std.proofs.Common.{◌∷◌, ap, sym, ◌∙◌, refl, subst, arith}
use Rattle.source_nodes.proofs.Walks.{Asks, asks_all, asks_past_leaf, asks_past_branch, asked_at_branch, asked_at_end, count_fits, child_nodes, child_past, child_here}
use Rattle.source_nodes.proofs.walk.child.Goals as goal

pub loop-node-init : goal.loop-node-init
loop-node-init c =
    asks_all c.derivations_are_forests.ensures c.forests_open.ensures (child_nodes c.args.production) (child_nodes c.args.production) c.args.nodes.now c.requires

pub split_at-requires : goal.split_at-requires
split_at-requires c =
    count_fits c.derivations_are_forests.ensures c.forests_open.ensures (child_nodes c.args.production) (child_nodes c.args.production) c.args.nodes.now
    c.in-Branch.p c.in-Branch.count c.loop-node.left.now c.in-Some.rest.now (c.in-Some.ensures ∙ ap (λ n. n ∷ c.in-Some.rest.now) c.in-Branch.is) c.loop-node.invariant

pub returns-then-p-production : goal.returns-then-p-production
returns-then-p-production c f whole =
    c.split_at.ensures.front
    ∙ asked_at_branch c.derivations_are_forests.ensures c.forests_open.ensures (child_nodes c.args.production) (child_nodes c.args.production) c.args.nodes.now
    c.in-Branch.p c.in-Branch.count c.loop-node.left.now c.in-Some.rest.now (c.in-Some.ensures ∙ ap (λ n. n ∷ c.in-Some.rest.now) c.in-Branch.is) c.loop-node.invariant
    (λ ns. ns) (λ b a. child_here c.args.production c.in-Branch.p b a (grind arith)) f whole

pub loop-node-preserved-in-Branch : goal.loop-node-preserved-in-Branch
loop-node-preserved-in-Branch c =
    subst (λ left. Asks (child_nodes c.args.production) (child_nodes c.args.production) c.args.nodes.now left) (sym c.split_at.ensures.back)
    (asks_past_branch c.derivations_are_forests.ensures c.forests_open.ensures (child_nodes c.args.production) (child_nodes c.args.production) c.args.nodes.now
    c.in-Branch.p c.in-Branch.count c.loop-node.left.now c.in-Some.rest.now (λ b a. child_past c.args.production c.in-Branch.p b a (grind arith)) (c.in-Some.ensures ∙ ap (λ n. n ∷ c.in-Some.rest.now) c.in-Branch.is) c.loop-node.invariant)

pub loop-node-preserved : goal.loop-node-preserved
loop-node-preserved c =
    asks_past_leaf c.derivations_are_forests.ensures c.forests_open.ensures (child_nodes c.args.production) (child_nodes c.args.production) c.args.nodes.now
    (child_nodes c.args.production) c.in-Leaf.token c.loop-node.left.now c.in-Some.rest.now (λ a. refl) (c.in-Some.ensures ∙ ap (λ n. n ∷ c.in-Some.rest.now) c.in-Leaf.is) c.loop-node.invariant

pub returns : goal.returns
returns c f whole =
    asked_at_end c.derivations_are_forests.ensures c.forests_open.ensures (child_nodes c.args.production) (child_nodes c.args.production) c.args.nodes.now c.loop-node.left.now c.in_default.ensures c.loop-node.invariant f whole
