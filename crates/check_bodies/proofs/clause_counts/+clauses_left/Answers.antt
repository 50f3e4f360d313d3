use Rattle.std.proofs.Common.{◌≡◌, ◌-◌, ◌<◌, ◌∷◌, length, ap, sym, subst, ◌∙◌, refl, arith, rules}
use Rattle.std.specs.Prelude.{true, false, Err, Ok}
use Rattle.source_model.specs.Clauses.{clause_forms}
use Rattle.source_model.specs.Forest.{is_among}
use Rattle.source_nodes.specs.Walk.{IsForest}
use Rattle.source_syntax.proofs.Stepping.{Steps, below_fits, below_is_forest, first_step, step_at_branch, step_at_end, step_into_branch, step_past_branch, step_past_leaf}
use Rattle.check_visitor.proofs.AskingLemmas.{below_shorter, next_shorter, rest_shorter}
use Rattle.check_bodies.proofs.ClauseCountLemmas.{left_itself, left_of, left_other, left_past, left_within}
use Rattle.check_bodies.proofs.clause_counts.+clauses_left.Goals as goal

pub loop-node-init : goal.loop-node-init
loop-node-init t c =
    let whole = left_of c.args.most in
    record {
      shorter = omega arith;
      steps = first_step c.forests_open.ensures whole whole whole c.args.nodes.now c.derivations_are_forests.ensures c.requires;
    }

pub split_at-requires : goal.split_at-requires
split_at-requires t c =
    let now = left_of c.loop-node.more in
    below_fits c.forests_open.ensures now now (left_of c.args.most) c.args.nodes.now
    c.in-Branch.production c.in-Branch.count c.loop-node.left.now c.in-Some.rest.now
    (c.in-Some.ensures ∙ ap (λ n. n ∷ c.in-Some.rest.now) c.in-Branch.is) c.loop-node.invariant.steps

pub clauses_left-requires : goal.clauses_left-requires
clauses_left-requires t c =
    let now = left_of c.loop-node.more in
    let is = c.in-Some.ensures ∙ ap (λ n. n ∷ c.in-Some.rest.now) c.in-Branch.is in
    let f =
    below_is_forest c.forests_open.ensures now now (left_of c.args.most) c.args.nodes.now
    c.in-Branch.production c.in-Branch.count c.loop-node.left.now c.in-Some.rest.now is c.loop-node.invariant.steps in
    let falls : length c.split_at.result.0.now < t =
    below_shorter c.in-Branch.production c.in-Branch.count c.loop-node.left.now c.in-Some.rest.now c.args.nodes.now c.split_at.result.0.now t is
    c.split_at.ensures.front c.loop-node.invariant.shorter c.decreases in
    let forest : IsForest c.split_at.result.0.now = (f.0, f.1 ∙ sym c.split_at.ensures.front) in
    search rules

pub first_token-requires : goal.first_token-requires
first_token-requires t c =
    let now = left_of c.loop-node.more in
    let f =
    below_is_forest c.forests_open.ensures now now (left_of c.args.most) c.args.nodes.now
    c.in-Branch.production c.in-Branch.count c.loop-node.left.now c.in-Some.rest.now
    (c.in-Some.ensures ∙ ap (λ n. n ∷ c.in-Some.rest.now) c.in-Branch.is) c.loop-node.invariant.steps in
    (f.0, f.1 ∙ sym c.split_at.ensures.front)

pub returns-in-Ok-eq0 : goal.returns-in-Ok-eq0
returns-in-Ok-eq0 t c f e =
    let now = left_of c.loop-node.more in
    let q = c.in-Branch.production in
    let own : is_among clause_forms q ≡ true = sym c.is_clause.ensures ∙ c.if-is_clause.true in
    step_at_branch c.forests_open.ensures now now (left_of c.args.most) c.args.nodes.now
    (Err c.first_token.result) q c.in-Branch.count c.loop-node.left.now c.in-Some.rest.now
    (λ i b a h.
    let below = h ∙ sym c.split_at.ensures.front in
    left_itself c.loop-node.more q b a own c.first_token.result c.in-Ok-eq0.field-0
    (sym c.in-Ok-eq0.is ∙ c.clauses_left.ensures b below) c.in-Ok-eq0.field-0-test (c.first_token.ensures b below))
    (c.in-Some.ensures ∙ ap (λ n. n ∷ c.in-Some.rest.now) c.in-Branch.is) c.loop-node.invariant.steps tt f e

pub returns-in-Err : goal.returns-in-Err
returns-in-Err t c f e =
    let now = left_of c.loop-node.more in
    let q = c.in-Branch.production in
    let own : is_among clause_forms q ≡ true = sym c.is_clause.ensures ∙ c.if-is_clause.true in
    step_at_branch c.forests_open.ensures now now (left_of c.args.most) c.args.nodes.now
    (Err c.in-Err.token) q c.in-Branch.count c.loop-node.left.now c.in-Some.rest.now
    (λ i b a h.
    left_within c.loop-node.more q b a own c.in-Err.token (sym c.in-Err.is ∙ c.clauses_left.ensures b (h ∙ sym c.split_at.ensures.front)))
    (c.in-Some.ensures ∙ ap (λ n. n ∷ c.in-Some.rest.now) c.in-Branch.is) c.loop-node.invariant.steps tt f e

pub loop-node-preserved-then-is_clause : goal.loop-node-preserved-then-is_clause
loop-node-preserved-then-is_clause t c =
    let now = left_of c.loop-node.more in
    let next = left_of (c.in-Ok.within - 1) in
    let whole = left_of c.args.most in
    let q = c.in-Branch.production in
    let is = c.in-Some.ensures ∙ ap (λ n. n ∷ c.in-Some.rest.now) c.in-Branch.is in
    let own : is_among clause_forms q ≡ true = sym c.is_clause.ensures ∙ c.if-is_clause.true in
    record {
      shorter = rest_shorter q c.in-Branch.count c.loop-node.left.now c.in-Some.rest.now c.args.nodes.now c.split_at.result.1.now is c.split_at.ensures.back
          c.loop-node.invariant.shorter;
      steps = subst (λ left. Steps next whole c.args.nodes.now left) (sym c.split_at.ensures.back)
          (step_past_branch c.forests_open.ensures now next whole c.args.nodes.now q c.in-Branch.count c.loop-node.left.now c.in-Some.rest.now
          (λ i b a h.
          left_past c.loop-node.more q b a own c.in-Ok.within (sym c.in-Ok.is ∙ c.clauses_left.ensures b (h ∙ sym c.split_at.ensures.front)) c.in-Ok.within-test.1)
          is c.loop-node.invariant.steps);
    }

pub loop-node-preserved-else-is_clause : goal.loop-node-preserved-else-is_clause
loop-node-preserved-else-is_clause t c =
    let now = left_of c.loop-node.more in
    let whole = left_of c.args.most in
    let q = c.in-Branch.production in
    let other : is_among clause_forms q ≡ false = sym c.is_clause.ensures ∙ c.if-is_clause.false in
    record {
      shorter = next_shorter c.loop-node.left.now c.in-Some.rest.now c.args.nodes.now c.in-Some.node c.in-Some.ensures c.loop-node.invariant.shorter;
      steps = step_into_branch c.forests_open.ensures now now whole c.args.nodes.now c.forests_join.ensures
          q c.in-Branch.count c.loop-node.left.now c.in-Some.rest.now
          (λ i b a e. left_other c.loop-node.more q b a other)
          (c.in-Some.ensures ∙ ap (λ n. n ∷ c.in-Some.rest.now) c.in-Branch.is) c.loop-node.invariant.steps;
    }

pub loop-node-preserved : goal.loop-node-preserved
loop-node-preserved t c =
    let now = left_of c.loop-node.more in
    record {
      shorter = next_shorter c.loop-node.left.now c.in-Some.rest.now c.args.nodes.now c.in-Some.node c.in-Some.ensures c.loop-node.invariant.shorter;
      steps = step_past_leaf c.forests_open.ensures now now (left_of c.args.most) c.args.nodes.now
          c.in-Leaf.token c.loop-node.left.now c.in-Some.rest.now (λ i a. refl)
          (c.in-Some.ensures ∙ ap (λ n. n ∷ c.in-Some.rest.now) c.in-Leaf.is) c.loop-node.invariant.steps;
    }

pub returns : goal.returns
returns t c f e =
    let now = left_of c.loop-node.more in
    step_at_end c.forests_open.ensures now now (left_of c.args.most) c.args.nodes.now c.loop-node.left.now c.in_default.ensures c.loop-node.invariant.steps tt f e
