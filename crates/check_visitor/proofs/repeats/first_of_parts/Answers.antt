use Rattle.std.proofs.Common.{◌≡◌, ◌∷◌, ap, sym, ◌∙◌, refl, subst, arith}
use Rattle.std.specs.Prelude.{true, false, ◌==◌, None}
use Rattle.check_visitor.proofs.RepeatLemmas.{found_all, past, past_first, past_other, past_repeat}
use Rattle.source_syntax.proofs.Stepping.{Steps, below_fits, below_is_forest, first_step, step_at_end, step_into_branch, step_past_branch, step_past_leaf}
use Rattle.check_visitor.proofs.repeats.first_of_parts.Goals as goal

pub loop-node-init : goal.loop-node-init
loop-node-init c =
    let whole = past c.args.pick c.args.production c.args.skip None in
    let begun : Steps whole whole c.args.nodes.now c.args.nodes.now =
    first_step c.forests_open.ensures whole whole whole c.args.nodes.now c.derivations_are_forests.ensures c.requires.forest in
    record { steps = begun; once = c.requires.few }

pub split_at-requires : goal.split_at-requires
split_at-requires c =
    let now = past c.args.pick c.args.production c.loop-node.more c.loop-node.found in
    below_fits c.forests_open.ensures now now (past c.args.pick c.args.production c.args.skip None) c.args.nodes.now
    c.in-Branch.p c.in-Branch.count c.loop-node.left.now c.in-Some.rest.now
    (c.in-Some.ensures ∙ ap (λ n. n ∷ c.in-Some.rest.now) c.in-Branch.is) c.loop-node.invariant.steps

pub picked-requires : goal.picked-requires
picked-requires c =
    let now = past c.args.pick c.args.production c.loop-node.more c.loop-node.found in
    let f =
    below_is_forest c.forests_open.ensures now now (past c.args.pick c.args.production c.args.skip None) c.args.nodes.now
    c.in-Branch.p c.in-Branch.count c.loop-node.left.now c.in-Some.rest.now
    (c.in-Some.ensures ∙ ap (λ n. n ∷ c.in-Some.rest.now) c.in-Branch.is) c.loop-node.invariant.steps in
    (f.0, f.1 ∙ sym c.split_at.ensures.front)

pub loop-node-preserved-then-more-eq0 : goal.loop-node-preserved-then-more-eq0
loop-node-preserved-then-more-eq0 c =
    let now = past c.args.pick c.args.production c.loop-node.more c.loop-node.found in
    let next = past c.args.pick c.args.production c.loop-node.more c.sooner-found.result in
    let whole = past c.args.pick c.args.production c.args.skip None in
    let q = c.in-Branch.p in
    let own : (c.args.production == q) ≡ true = grind arith in
    let on : Steps next whole c.args.nodes.now c.split_at.result.1.now =
    subst (λ left. Steps next whole c.args.nodes.now left) (sym c.split_at.ensures.back)
    (step_past_branch c.forests_open.ensures now next whole c.args.nodes.now q c.in-Branch.count c.loop-node.left.now c.in-Some.rest.now
    (λ i b a e. ap (λ o. past c.args.pick c.args.production c.loop-node.more o tt a) c.sooner-found.ensures
    ∙ past_repeat c.args.pick c.args.production c.loop-node.found c.loop-node.more q c.picked.result b a own c.if-more-eq0.true
    (c.picked.ensures b (e ∙ sym c.split_at.ensures.front)))
    (c.in-Some.ensures ∙ ap (λ n. n ∷ c.in-Some.rest.now) c.in-Branch.is) c.loop-node.invariant.steps) in
    record { steps = on; once = c.loop-node.invariant.once }

pub loop-node-preserved-else-more-eq0 : goal.loop-node-preserved-else-more-eq0
loop-node-preserved-else-more-eq0 c =
    let now = past c.args.pick c.args.production c.loop-node.more c.loop-node.found in
    let next = past c.args.pick c.args.production 0 c.loop-node.found in
    let whole = past c.args.pick c.args.production c.args.skip None in
    let q = c.in-Branch.p in
    let own : (c.args.production == q) ≡ true = grind arith in
    let one : c.loop-node.more ≡ 1 = grind (arith, c.loop-node.invariant.once, c.if-more-eq0.false) in
    let on : Steps next whole c.args.nodes.now c.split_at.result.1.now =
    subst (λ left. Steps next whole c.args.nodes.now left) (sym c.split_at.ensures.back)
    (step_past_branch c.forests_open.ensures now next whole c.args.nodes.now q c.in-Branch.count c.loop-node.left.now c.in-Some.rest.now
    (λ i b a e. past_first c.args.pick c.args.production c.loop-node.found c.loop-node.more q b a own one)
    (c.in-Some.ensures ∙ ap (λ n. n ∷ c.in-Some.rest.now) c.in-Branch.is) c.loop-node.invariant.steps) in
    record { steps = on; once = omega arith }

pub loop-node-preserved-else-p-production : goal.loop-node-preserved-else-p-production
loop-node-preserved-else-p-production c =
    let now = past c.args.pick c.args.production c.loop-node.more c.loop-node.found in
    let whole = past c.args.pick c.args.production c.args.skip None in
    let q = c.in-Branch.p in
    let other : (c.args.production == q) ≡ false = grind arith in
    let on : Steps now whole c.args.nodes.now c.in-Some.rest.now =
    step_into_branch c.forests_open.ensures now now whole c.args.nodes.now c.forests_join.ensures
    q c.in-Branch.count c.loop-node.left.now c.in-Some.rest.now
    (λ i b a e. past_other c.args.pick c.args.production c.loop-node.found c.forests_join.ensures c.loop-node.more q b a other)
    (c.in-Some.ensures ∙ ap (λ n. n ∷ c.in-Some.rest.now) c.in-Branch.is) c.loop-node.invariant.steps in
    record { steps = on; once = c.loop-node.invariant.once }

pub loop-node-preserved : goal.loop-node-preserved
loop-node-preserved c =
    let now = past c.args.pick c.args.production c.loop-node.more c.loop-node.found in
    let whole = past c.args.pick c.args.production c.args.skip None in
    let on : Steps now whole c.args.nodes.now c.in-Some.rest.now =
    step_past_leaf c.forests_open.ensures now now whole c.args.nodes.now
    c.in-Leaf.token c.loop-node.left.now c.in-Some.rest.now (λ i a. refl)
    (c.in-Some.ensures ∙ ap (λ n. n ∷ c.in-Some.rest.now) c.in-Leaf.is) c.loop-node.invariant.steps in
    record { steps = on; once = c.loop-node.invariant.once }

pub returns : goal.returns
returns c f e =
    let now = past c.args.pick c.args.production c.loop-node.more c.loop-node.found in
    found_all c.args.pick c.args.production c.loop-node.more c.loop-node.found
    ∙ step_at_end c.forests_open.ensures now now (past c.args.pick c.args.production c.args.skip None) c.args.nodes.now
    c.loop-node.left.now c.in_default.ensures c.loop-node.invariant.steps tt f e
