use Rattle.std.proofs.Common.{◌≡◌, ◌∷◌, ap, sym, ◌∙◌, refl, subst, arith}
use Rattle.std.specs.Prelude.{true, false, ◌==◌, None}
use Rattle.source_model.specs.TypeRules.{unless}
use Rattle.source_nodes.specs.Least.{least, sooner}
use Rattle.check_visitor.proofs.AskingLemmas.{nothing_more}
use Rattle.check_visitor.specs.NumberTests.{keeps_within}
use Rattle.check_visitor.proofs.RangeLemmas.{out_after, out_in_each, out_into, out_past}
use Rattle.source_syntax.proofs.Stepping.{Steps, below_fits, below_is_forest, first_step, step_at_end, step_into_branch, step_past_branch, step_past_leaf}
use Rattle.check_visitor.proofs.ranges.beyond_in_each.Goals as goal

pub loop-node-init : goal.loop-node-init
loop-node-init c =
    let whole = out_after (keeps_within c.args.limit) c.args.production c.args.reader.now None in
    first_step c.forests_open.ensures whole whole whole c.args.nodes.now c.derivations_are_forests.ensures c.requires

pub split_at-requires : goal.split_at-requires
split_at-requires c =
    let now = out_after (keeps_within c.args.limit) c.args.production c.args.reader.now c.loop-node.found in
    let whole = out_after (keeps_within c.args.limit) c.args.production c.args.reader.now None in
    below_fits c.forests_open.ensures now now whole c.args.nodes.now
    c.in-Branch.p c.in-Branch.count c.loop-node.left.now c.in-Some.rest.now
    (c.in-Some.ensures ∙ ap (λ n. n ∷ c.in-Some.rest.now) c.in-Branch.is) c.loop-node.invariant

pub leaf_at-requires : goal.leaf_at-requires
leaf_at-requires c =
    let now = out_after (keeps_within c.args.limit) c.args.production c.args.reader.now c.loop-node.found in
    let whole = out_after (keeps_within c.args.limit) c.args.production c.args.reader.now None in
    let f =
    below_is_forest c.forests_open.ensures now now whole c.args.nodes.now
    c.in-Branch.p c.in-Branch.count c.loop-node.left.now c.in-Some.rest.now
    (c.in-Some.ensures ∙ ap (λ n. n ∷ c.in-Some.rest.now) c.in-Branch.is) c.loop-node.invariant in
    (f.0, f.1 ∙ sym c.split_at.ensures.front)

pub loop-node-preserved-then-p-production : goal.loop-node-preserved-then-p-production
loop-node-preserved-then-p-production c =
    let test = keeps_within c.args.limit in
    let p = c.args.production in
    let now = out_after test p c.args.reader.now c.loop-node.found in
    let next = out_after test p c.args.reader.now c.sooner-found.result in
    let whole = out_after test p c.args.reader.now None in
    let q = c.in-Branch.p in
    let own : (p == q) ≡ true = grind arith in
    subst (λ left. Steps next whole c.args.nodes.now left) (sym c.split_at.ensures.back)
    (step_past_branch c.forests_open.ensures now next whole c.args.nodes.now q c.in-Branch.count c.loop-node.left.now c.in-Some.rest.now
    (λ i b a e.
    ap (λ o. sooner o (least (out_in_each test p i.0 a))) c.sooner-found.ensures
    ∙ out_past test p i.0 c.loop-node.found q b a c.beyond-here.result own
    (c.beyond-here.ensures i.0 i.1 ∙ ap (λ k. least (unless test i.0 k)) (c.leaf_at.ensures b (e ∙ sym c.split_at.ensures.front))))
    (c.in-Some.ensures ∙ ap (λ n. n ∷ c.in-Some.rest.now) c.in-Branch.is) c.loop-node.invariant)

pub loop-node-preserved-else-p-production : goal.loop-node-preserved-else-p-production
loop-node-preserved-else-p-production c =
    let test = keeps_within c.args.limit in
    let p = c.args.production in
    let now = out_after test p c.args.reader.now c.loop-node.found in
    let whole = out_after test p c.args.reader.now None in
    let q = c.in-Branch.p in
    let other : (p == q) ≡ false = grind arith in
    step_into_branch c.forests_open.ensures now now whole c.args.nodes.now c.forests_join.ensures
    q c.in-Branch.count c.loop-node.left.now c.in-Some.rest.now
    (λ i b a e. out_into test p i.0 c.loop-node.found c.forests_join.ensures q b a other)
    (c.in-Some.ensures ∙ ap (λ n. n ∷ c.in-Some.rest.now) c.in-Branch.is) c.loop-node.invariant

pub loop-node-preserved : goal.loop-node-preserved
loop-node-preserved c =
    let now = out_after (keeps_within c.args.limit) c.args.production c.args.reader.now c.loop-node.found in
    let whole = out_after (keeps_within c.args.limit) c.args.production c.args.reader.now None in
    step_past_leaf c.forests_open.ensures now now whole c.args.nodes.now
    c.in-Leaf.token c.loop-node.left.now c.in-Some.rest.now (λ i a. refl)
    (c.in-Some.ensures ∙ ap (λ n. n ∷ c.in-Some.rest.now) c.in-Leaf.is) c.loop-node.invariant

pub returns : goal.returns
returns c s f r e =
    let now = out_after (keeps_within c.args.limit) c.args.production c.args.reader.now c.loop-node.found in
    let whole = out_after (keeps_within c.args.limit) c.args.production c.args.reader.now None in
    nothing_more c.loop-node.found
    ∙ step_at_end c.forests_open.ensures now now whole c.args.nodes.now
    c.loop-node.left.now c.in_default.ensures c.loop-node.invariant (s, r) f e
