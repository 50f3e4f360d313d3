use Rattle.std.proofs.Common.{◌≡◌, ◌+◌, slice_get, ap, sym, ◌∙◌, subst, length, refl}
use Rattle.std.specs.Prelude.{Some}
use Rattle.std.proofs.lemmas.Option.{slice_get_read}
use Rattle.source_flags.specs.Lines.{productions_of}
use Rattle.source_nodes.proofs.PieceLemmas.{Gathered, begin, past_leaf, into_branch, past_branch}
use Rattle.source_flags.proofs.gathering.parts_of.Goals as goal
use Rattle.source_flags.proofs.gathering.parts_of.Goals.{In-Some}

node_is : (c : In-Some) → slice_get c.args.nodes.now c.loop-node.at ≡ Some c.in-Some.node.now
node_is c =
    let h = c.in-Some.ensures.lookup in
    slice_get_read c.args.nodes.now (length c.args.nodes.now) c.loop-node.at c.in-Some.node.now refl h.3.0 h.1

pub loop-node-init : goal.loop-node-init
loop-node-init c =
    subst (λ found. Gathered c.args.nodes.now (productions_of c.args.kind) 0 found) (sym c.new-found.ensures)
    (begin c.derivations_are_forests.ensures c.forests_open.ensures c.forests_join.ensures c.args.nodes.now (productions_of c.args.kind) c.requires)

pub loop-node-preserved-then-is_of_kind : goal.loop-node-preserved-then-is_of_kind
loop-node-preserved-then-is_of_kind c =
    subst (λ found. Gathered c.args.nodes.now (productions_of c.args.kind) (c.loop-node.at + 1 + c.in-Branch.count) found) (sym c.in_ok-push-in-Branch.ensures.ok)
    (past_branch c.derivations_are_forests.ensures c.forests_open.ensures c.forests_join.ensures c.args.nodes.now (productions_of c.args.kind) c.loop-node.at
    c.in-Branch.production c.in-Branch.count c.loop-node.found (node_is ((goal.at.loop-node-preserved-then-is_of_kind c).In-Some) ∙ ap Some c.in-Branch.is)
    (sym c.is_of_kind.ensures ∙ c.if-is_of_kind.true) c.loop-node.invariant)

pub loop-node-preserved-else-is_of_kind : goal.loop-node-preserved-else-is_of_kind
loop-node-preserved-else-is_of_kind c =
    into_branch c.derivations_are_forests.ensures c.forests_open.ensures c.forests_join.ensures c.args.nodes.now (productions_of c.args.kind) c.loop-node.at
    c.in-Branch.production c.in-Branch.count c.loop-node.found (node_is ((goal.at.loop-node-preserved-else-is_of_kind c).In-Some) ∙ ap Some c.in-Branch.is)
    (sym c.is_of_kind.ensures ∙ c.if-is_of_kind.false) c.loop-node.invariant

pub loop-node-preserved : goal.loop-node-preserved
loop-node-preserved c =
    past_leaf c.derivations_are_forests.ensures c.forests_open.ensures c.forests_join.ensures c.args.nodes.now (productions_of c.args.kind) c.loop-node.at
    c.in-Leaf.token c.loop-node.found (node_is ((goal.at.loop-node-preserved c).In-Some) ∙ ap Some c.in-Leaf.is) c.loop-node.invariant
