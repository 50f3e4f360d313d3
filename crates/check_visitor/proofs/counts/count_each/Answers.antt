use Rattle.std.proofs.Common.{◌≡◌, ◌+◌, ◌∷◌, ap, sym, ◌∙◌, refl, subst, arith, length, length-drop}
use Rattle.std.specs.Prelude.{true, false, ◌==◌}
use Rattle.check_visitor.proofs.CountLemmas.{counted, counted_other, counted_own}
use Rattle.source_syntax.proofs.Stepping.{Steps, below_fits, first_step, step_at_end, step_into_branch, step_past_branch, step_past_leaf}
use Rattle.check_visitor.proofs.counts.count_each.Goals as goal

pub loop-node-init : goal.loop-node-init
loop-node-init c =
    let whole = counted c.args.production 0 in
    record {
      steps = first_step c.forests_open.ensures whole whole whole c.args.nodes.now c.derivations_are_forests.ensures c.requires;
      within = omega arith;
    }

pub split_at-requires : goal.split_at-requires
split_at-requires c =
    let now = counted c.args.production c.loop-node.found in
    below_fits c.forests_open.ensures now now (counted c.args.production 0) c.args.nodes.now
    c.in-Branch.p c.in-Branch.count c.loop-node.left.now c.in-Some.rest.now
    (c.in-Some.ensures ∙ ap (λ n. n ∷ c.in-Some.rest.now) c.in-Branch.is) c.loop-node.invariant.steps

pub loop-node-preserved-then-p-production : goal.loop-node-preserved-then-p-production
loop-node-preserved-then-p-production c =
    let p = c.args.production in
    let q = c.in-Branch.p in
    let now = counted p c.loop-node.found in
    let next = counted p (c.loop-node.found + 1) in
    let whole = counted p 0 in
    let own : (p == q) ≡ true = grind arith in
    let is = c.in-Some.ensures ∙ ap (λ n. n ∷ c.in-Some.rest.now) c.in-Branch.is in
    let long : length c.loop-node.left.now ≡ length c.in-Some.rest.now + 1 = ap length is ∙ omega arith in
    let back = ap length c.split_at.ensures.back in
    record {
      steps = subst (λ left. Steps next whole c.args.nodes.now left) (sym c.split_at.ensures.back)
          (step_past_branch c.forests_open.ensures now next whole c.args.nodes.now q c.in-Branch.count c.loop-node.left.now c.in-Some.rest.now
          (λ i b a e. counted_own p c.loop-node.found q b a own) is c.loop-node.invariant.steps);
      within = omega (arith, long, back, length-drop c.in-Branch.count c.in-Some.rest.now, c.loop-node.invariant.within);
    }

pub loop-node-preserved-else-p-production : goal.loop-node-preserved-else-p-production
loop-node-preserved-else-p-production c =
    let p = c.args.production in
    let q = c.in-Branch.p in
    let now = counted p c.loop-node.found in
    let whole = counted p 0 in
    let other : (p == q) ≡ false = grind arith in
    let is = c.in-Some.ensures ∙ ap (λ n. n ∷ c.in-Some.rest.now) c.in-Branch.is in
    let long : length c.loop-node.left.now ≡ length c.in-Some.rest.now + 1 = ap length is ∙ omega arith in
    record {
      steps = step_into_branch c.forests_open.ensures now now whole c.args.nodes.now c.forests_join.ensures
          q c.in-Branch.count c.loop-node.left.now c.in-Some.rest.now
          (λ i b a e. counted_other p c.forests_join.ensures c.loop-node.found q b a other) is c.loop-node.invariant.steps;
      within = omega (arith, long, c.loop-node.invariant.within);
    }

pub loop-node-preserved : goal.loop-node-preserved
loop-node-preserved c =
    let now = counted c.args.production c.loop-node.found in
    let whole = counted c.args.production 0 in
    let is = c.in-Some.ensures ∙ ap (λ n. n ∷ c.in-Some.rest.now) c.in-Leaf.is in
    let long : length c.loop-node.left.now ≡ length c.in-Some.rest.now + 1 = ap length is ∙ omega arith in
    record {
      steps = step_past_leaf c.forests_open.ensures now now whole c.args.nodes.now c.in-Leaf.token c.loop-node.left.now c.in-Some.rest.now (λ i a. refl) is
          c.loop-node.invariant.steps;
      within = omega (arith, long, c.loop-node.invariant.within);
    }

pub returns : goal.returns
returns c f e =
    let now = counted c.args.production c.loop-node.found in
    let end : c.loop-node.found ≡ c.loop-node.found + 0 = omega arith in
    end
    ∙ step_at_end c.forests_open.ensures now now (counted c.args.production 0) c.args.nodes.now
    c.loop-node.left.now c.in_default.ensures c.loop-node.invariant.steps tt f e
    ∙ omega arith
