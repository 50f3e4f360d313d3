use Rattle.std.proofs.Common.{◌∷◌, ap, sym, subst, ◌∙◌}
use Rattle.source_nodes.specs.Least.{sooner}
use Rattle.source_nodes.specs.Walk.{IsForest}
use Rattle.check_source.proofs.Sweeps.{Swept, begin, ended, first_fits, first_is_forest, into_outer, past_leaf, past_tree}
use Rattle.check_source.proofs.passes.declaration_fault.Goals as goal

pub loop-node-init : goal.loop-node-init
loop-node-init c = begin c.derivations_are_forests.ensures c.args.reader.now c.args.declared.now c.requires.forest

pub split_at-requires : goal.split_at-requires
split_at-requires c =
    first_fits c.forests_open.ensures c.forests_join.ensures c.args.reader.now c.args.declared.now c.loop-node.left.now c.in-Some.rest.now c.loop-node.found
    c.loop-node.invariant c.in-Branch.production c.in-Branch.count (c.in-Some.ensures ∙ ap (λ n. n ∷ c.in-Some.rest.now) c.in-Branch.is)

pub tree_fault-requires-clause-forest : goal.tree_fault-requires-clause-forest
tree_fault-requires-clause-forest c =
    subst IsForest (sym c.split_at.ensures.front)
    (first_is_forest c.forests_open.ensures c.forests_join.ensures c.args.reader.now c.args.declared.now c.loop-node.left.now c.in-Some.rest.now c.loop-node.found
    c.loop-node.invariant c.in-Branch.production c.in-Branch.count (c.in-Some.ensures ∙ ap (λ n. n ∷ c.in-Some.rest.now) c.in-Branch.is))

pub loop-node-preserved-then-is_outer : goal.loop-node-preserved-then-is_outer
loop-node-preserved-then-is_outer c =
    into_outer c.forests_open.ensures c.forests_join.ensures c.args.reader.now c.args.declared.now c.loop-node.left.now c.in-Some.rest.now c.loop-node.found
    c.loop-node.invariant c.in-Branch.production c.in-Branch.count (c.in-Some.ensures ∙ ap (λ n. n ∷ c.in-Some.rest.now) c.in-Branch.is)
    (sym c.is_outer.ensures ∙ c.if-is_outer.true)

pub loop-node-preserved-else-is_outer : goal.loop-node-preserved-else-is_outer
loop-node-preserved-else-is_outer c =
    let r = c.args.reader.now in
    let d = c.args.declared.now in
    let here = c.in_ok-here-in-Branch.here in
    subst (Swept r d c.split_at.result.1.now) (sym c.sooner-found.ensures)
    (subst (λ ns. Swept r d ns (sooner c.loop-node.found here)) (sym c.split_at.ensures.back)
    (past_tree c.forests_open.ensures c.forests_join.ensures r d c.loop-node.left.now c.in-Some.rest.now c.loop-node.found c.loop-node.invariant
    c.in-Branch.production c.in-Branch.count (c.in-Some.ensures ∙ ap (λ n. n ∷ c.in-Some.rest.now) c.in-Branch.is) here
    (λ s f reads all is stands. c.in_ok-here-in-Branch.ensures s f reads all (is ∙ sym c.split_at.ensures.front) stands)))

pub loop-node-preserved : goal.loop-node-preserved
loop-node-preserved c =
    past_leaf c.forests_open.ensures c.forests_join.ensures c.args.reader.now c.args.declared.now c.loop-node.left.now c.in-Some.rest.now c.loop-node.found
    c.loop-node.invariant c.in-Leaf.token (c.in-Some.ensures ∙ ap (λ n. n ∷ c.in-Some.rest.now) c.in-Leaf.is)

pub returns : goal.returns
returns c s reads all stands =
    ended c.forests_open.ensures c.args.reader.now c.args.declared.now c.loop-node.left.now c.loop-node.found c.in_default.ensures c.loop-node.invariant s reads all stands
