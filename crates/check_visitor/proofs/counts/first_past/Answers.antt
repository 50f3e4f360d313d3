use Rattle.std.proofs.Common.{◌≡◌, ◌-◌, ◌∷◌, length, ap, sym, ◌∙◌, refl, subst, arith}
use Rattle.std.specs.Prelude.{true, false, ◌==◌, Some}
use Rattle.check_visitor.proofs.CountLemmas.{behind, behind_first, behind_none, behind_other, behind_own, none_past}
use Rattle.source_syntax.proofs.Stepping.{Steps, below_fits, below_is_forest, first_step, step_at_branch, step_at_end, step_into_branch, step_past_branch, step_past_leaf}
use Rattle.check_visitor.proofs.counts.first_past.Goals as goal

pub loop-node-init : goal.loop-node-init
loop-node-init c =
    let whole = behind c.args.production c.args.skip in
    first_step c.forests_open.ensures whole whole whole c.args.nodes.now c.derivations_are_forests.ensures c.requires

pub split_at-requires : goal.split_at-requires
split_at-requires c =
    let now = behind c.args.production c.loop-node.more in
    below_fits c.forests_open.ensures now now (behind c.args.production c.args.skip) c.args.nodes.now
    c.in-Branch.p c.in-Branch.count c.loop-node.left.now c.in-Some.rest.now
    (c.in-Some.ensures ∙ ap (λ n. n ∷ c.in-Some.rest.now) c.in-Branch.is) c.loop-node.invariant

pub first_token-requires : goal.first_token-requires
first_token-requires c =
    let now = behind c.args.production c.loop-node.more in
    let f =
    below_is_forest c.forests_open.ensures now now (behind c.args.production c.args.skip) c.args.nodes.now
    c.in-Branch.p c.in-Branch.count c.loop-node.left.now c.in-Some.rest.now
    (c.in-Some.ensures ∙ ap (λ n. n ∷ c.in-Some.rest.now) c.in-Branch.is) c.loop-node.invariant in
    (f.0, f.1 ∙ sym c.split_at.ensures.front)

pub returns-then-more-eq0 : goal.returns-then-more-eq0
returns-then-more-eq0 c f e =
    let now = behind c.args.production c.loop-node.more in
    let q = c.in-Branch.p in
    let own : (c.args.production == q) ≡ true = grind arith in
    step_at_branch c.forests_open.ensures now now (behind c.args.production c.args.skip) c.args.nodes.now
    (Some c.first_token.result) q c.in-Branch.count c.loop-node.left.now c.in-Some.rest.now
    (λ i b a h. behind_first c.args.production c.loop-node.more q c.first_token.result b a own c.if-more-eq0.true
    (c.first_token.ensures b (h ∙ sym c.split_at.ensures.front)))
    (c.in-Some.ensures ∙ ap (λ n. n ∷ c.in-Some.rest.now) c.in-Branch.is) c.loop-node.invariant tt f e

pub loop-node-preserved-then-p-production : goal.loop-node-preserved-then-p-production
loop-node-preserved-then-p-production c =
    let now = behind c.args.production c.loop-node.more in
    let next = behind c.args.production (c.loop-node.more - 1) in
    let whole = behind c.args.production c.args.skip in
    let q = c.in-Branch.p in
    let own : (c.args.production == q) ≡ true = grind arith in
    subst (λ left. Steps next whole c.args.nodes.now left) (sym c.split_at.ensures.back)
    (step_past_branch c.forests_open.ensures now next whole c.args.nodes.now q c.in-Branch.count c.loop-node.left.now c.in-Some.rest.now
    (λ i b a e. behind_own c.args.production c.loop-node.more q b a own c.if-more-eq0.false)
    (c.in-Some.ensures ∙ ap (λ n. n ∷ c.in-Some.rest.now) c.in-Branch.is) c.loop-node.invariant)

pub loop-node-preserved-else-p-production : goal.loop-node-preserved-else-p-production
loop-node-preserved-else-p-production c =
    let now = behind c.args.production c.loop-node.more in
    let whole = behind c.args.production c.args.skip in
    let q = c.in-Branch.p in
    let other : (c.args.production == q) ≡ false = grind arith in
    step_into_branch c.forests_open.ensures now now whole c.args.nodes.now c.forests_join.ensures
    q c.in-Branch.count c.loop-node.left.now c.in-Some.rest.now
    (λ i b a e. behind_other c.args.production c.forests_join.ensures c.loop-node.more q b a other)
    (c.in-Some.ensures ∙ ap (λ n. n ∷ c.in-Some.rest.now) c.in-Branch.is) c.loop-node.invariant

pub loop-node-preserved : goal.loop-node-preserved
loop-node-preserved c =
    let now = behind c.args.production c.loop-node.more in
    step_past_leaf c.forests_open.ensures now now (behind c.args.production c.args.skip) c.args.nodes.now
    c.in-Leaf.token c.loop-node.left.now c.in-Some.rest.now (λ i a. refl)
    (c.in-Some.ensures ∙ ap (λ n. n ∷ c.in-Some.rest.now) c.in-Leaf.is) c.loop-node.invariant

pub returns : goal.returns
returns c f e =
    let now = behind c.args.production c.loop-node.more in
    behind_none c.args.production c.loop-node.more
    ∙ step_at_end c.forests_open.ensures now now (behind c.args.production c.args.skip) c.args.nodes.now
    c.loop-node.left.now c.in_default.ensures c.loop-node.invariant tt f e

pub returns-then-nodes-skip : goal.returns-then-nodes-skip
returns-then-nodes-skip c f e = none_past c.args.production c.args.skip f (omega (arith, ap length e))
