use Rattle.std.proofs.Common.{◌≡◌, ◌+◌, arith, slice_get, ap, sym, ◌∙◌, subst, length, refl}
use Rattle.std.specs.Prelude.{Some}
use Rattle.std.proofs.lemmas.Option.{slice_get_read}
use Rattle.source_nodes.proofs.Walks.{Looked, begin, past_leaf, into_branch, past_branch}
use Rattle.source_nodes.proofs.walk.each.Goals as goal
use Rattle.source_nodes.proofs.walk.each.Goals.{In-Some}

node_is : (c : In-Some) → slice_get c.args.nodes.now c.loop-node.at ≡ Some c.in-Some.node.now
node_is c =
    let h = c.in-Some.ensures.lookup in
    slice_get_read c.args.nodes.now (length c.args.nodes.now) c.loop-node.at c.in-Some.node.now refl h.3.0 h.1

pub loop-node-init : goal.loop-node-init
loop-node-init c =
    subst (λ found. Looked c.args.nodes.now c.args.production 0 found) (sym c.new-found.ensures)
    (begin c.derivations_are_forests.ensures c.forests_open.ensures c.forests_join.ensures c.args.nodes.now c.args.production c.requires)

pub loop-node-preserved-then-p-production : goal.loop-node-preserved-then-p-production
loop-node-preserved-then-p-production c =
    subst (λ found. Looked c.args.nodes.now c.args.production (c.loop-node.at + (1 + c.in-Branch.count)) found) (sym c.in_ok-push-in-Branch.ensures.ok)
    (past_branch c.derivations_are_forests.ensures c.forests_open.ensures c.forests_join.ensures c.args.nodes.now c.args.production c.loop-node.at
    c.in-Branch.p c.in-Branch.count c.loop-node.found (node_is ((goal.at.loop-node-preserved-then-p-production c).In-Some) ∙ ap Some c.in-Branch.is) (grind arith) c.loop-node.invariant)

pub loop-node-preserved-else-p-production : goal.loop-node-preserved-else-p-production
loop-node-preserved-else-p-production c =
    into_branch c.derivations_are_forests.ensures c.forests_open.ensures c.forests_join.ensures c.args.nodes.now c.args.production c.loop-node.at
    c.in-Branch.p c.in-Branch.count c.loop-node.found (node_is ((goal.at.loop-node-preserved-else-p-production c).In-Some) ∙ ap Some c.in-Branch.is) (grind arith) c.loop-node.invariant

pub loop-node-preserved : goal.loop-node-preserved
loop-node-preserved c =
    past_leaf c.derivations_are_forests.ensures c.forests_open.ensures c.forests_join.ensures c.args.nodes.now c.args.production c.loop-node.at
    c.in-Leaf.token c.loop-node.found (node_is ((goal.at.loop-node-preserved c).In-Some) ∙ ap Some c.in-Leaf.is) c.loop-node.invariant
