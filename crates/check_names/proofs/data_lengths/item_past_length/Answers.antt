use Rattle.std.proofs.Common.{◌≡◌, ◌+◌, ◌<◌, ◌≤◌, ◌∷◌, ap, sym, ◌∙◌, refl, subst, arith}
use Rattle.std.specs.Prelude.{true, false, Some}
use Rattle.source_model.specs.OutOfRange.{item_past_length}
use Rattle.source_nodes.specs.Least.{least}
use Rattle.check_names.specs.DataItems.{is_item}
use Rattle.check_visitor.proofs.AskingLemmas.{Bodied, bodied_after, bodied_behind, bodied_below, bodied_by, bodied_past_leaf}
use Rattle.check_names.proofs.DataLemmas.{items_other, keeps, passes, passing}
use Rattle.source_syntax.proofs.Stepping.{Steps, below_fits, below_is_forest, first_step, step_at_branch, step_at_end, step_into_branch, step_past_branch, step_past_leaf}
use Rattle.check_names.proofs.data_lengths.item_past_length.Goals as goal

pub loop-node-init : goal.loop-node-init
loop-node-init c =
    let whole = passing 0 c.args.reader.now c.args.below.now in
    let begun : Steps whole whole c.args.below.now c.args.below.now =
    first_step c.forests_open.ensures whole whole whole c.args.below.now c.derivations_are_forests.ensures c.requires in
    record { steps = begun; within = omega arith; bodied = λ s h. h }

pub split_at-requires : goal.split_at-requires
split_at-requires c =
    let now = passing c.loop-node.before c.args.reader.now c.args.below.now in
    below_fits c.forests_open.ensures now now (passing 0 c.args.reader.now c.args.below.now) c.args.below.now
    c.in-Branch.production c.in-Branch.count c.loop-node.left.now c.in-Some.rest.now
    (c.in-Some.ensures ∙ ap (λ n. n ∷ c.in-Some.rest.now) c.in-Branch.is) c.loop-node.invariant.steps

pub counted_length-requires : goal.counted_length-requires
counted_length-requires c =
    let now = passing c.loop-node.before c.args.reader.now c.args.below.now in
    let f =
    below_is_forest c.forests_open.ensures now now (passing 0 c.args.reader.now c.args.below.now) c.args.below.now
    c.in-Branch.production c.in-Branch.count c.loop-node.left.now c.in-Some.rest.now
    (c.in-Some.ensures ∙ ap (λ n. n ∷ c.in-Some.rest.now) c.in-Branch.is) c.loop-node.invariant.steps in
    (f.0, f.1 ∙ sym c.split_at.ensures.front)

pub first_token-requires : goal.first_token-requires
first_token-requires c =
    let now = passing c.loop-node.before c.args.reader.now c.args.below.now in
    let f =
    below_is_forest c.forests_open.ensures now now (passing 0 c.args.reader.now c.args.below.now) c.args.below.now
    c.in-Branch.production c.in-Branch.count c.loop-node.left.now c.in-Some.rest.now
    (c.in-Some.ensures ∙ ap (λ n. n ∷ c.in-Some.rest.now) c.in-Branch.is) c.loop-node.invariant.steps in
    (f.0, f.1 ∙ sym c.split_at.ensures.front)

pub loop-node-preserved-then-is_item : goal.loop-node-preserved-then-is_item
loop-node-preserved-then-is_item c =
    let now = passing c.loop-node.before c.args.reader.now c.args.below.now in
    let next = passing (c.loop-node.before + c.in_ok-length-in-Branch.length) c.args.reader.now c.args.below.now in
    let whole = passing 0 c.args.reader.now c.args.below.now in
    let p = c.in-Branch.production in
    let is = c.in-Some.ensures ∙ ap (λ n. n ∷ c.in-Some.rest.now) c.in-Branch.is in
    let own : is_item p ≡ true = sym c.is_item.ensures ∙ c.if-is_item.true in
    let less : c.loop-node.before + c.in_ok-length-in-Branch.length ≤ 67108864 = omega arith in
    let on : Steps next whole c.args.below.now c.split_at.result.1.now =
    subst (λ left. Steps next whole c.args.below.now left) (sym c.split_at.ensures.back)
    (step_past_branch c.forests_open.ensures now next whole c.args.below.now p c.in-Branch.count c.loop-node.left.now c.in-Some.rest.now
    (λ i b a e.
    let fits = bodied_below c.forests_open.ensures c.forests_join.ensures c.derivations_are_forests.ensures i.source p c.in-Branch.count c.loop-node.left.now c.in-Some.rest.now is
    (c.loop-node.invariant.steps.forest, c.loop-node.invariant.steps.is) (c.loop-node.invariant.bodied i.source i.bodied) b e in
    keeps i.source c.loop-node.before c.in_ok-length-in-Branch.length p b a own (c.in_ok-length-in-Branch.ensures i.source b i.reads (e ∙ sym c.split_at.ensures.front) fits.0)
    (c.loop-node.before + c.in_ok-length-in-Branch.length) less refl)
    is c.loop-node.invariant.steps) in
    record {
      steps = on;
      within = less;
      bodied = λ s h.
          subst (Bodied s) (sym c.split_at.ensures.back) (bodied_after c.forests_open.ensures c.forests_join.ensures c.derivations_are_forests.ensures s p c.in-Branch.count c.loop-node.left.now c.in-Some.rest.now is (c.loop-node.invariant.steps.forest, c.loop-node.invariant.steps.is) (c.loop-node.invariant.bodied s h));
    }

pub returns-then-length-from : goal.returns-then-length-from
returns-then-length-from c s f r e h =
    let now = passing c.loop-node.before c.args.reader.now c.args.below.now in
    let whole = passing 0 c.args.reader.now c.args.below.now in
    let p = c.in-Branch.production in
    let is = c.in-Some.ensures ∙ ap (λ n. n ∷ c.in-Some.rest.now) c.in-Branch.is in
    let own : is_item p ≡ true = sym c.is_item.ensures ∙ c.if-is_item.true in
    let more : 67108864 < c.loop-node.before + c.in_ok-length-in-Branch.length = omega (arith, c.loop-node.invariant.within) in
    step_at_branch c.forests_open.ensures now now whole c.args.below.now (Some c.first_token.result) p c.in-Branch.count c.loop-node.left.now c.in-Some.rest.now
    (λ i b a inner.
    let fits = bodied_below c.forests_open.ensures c.forests_join.ensures c.derivations_are_forests.ensures i.source p c.in-Branch.count c.loop-node.left.now c.in-Some.rest.now is
    (c.loop-node.invariant.steps.forest, c.loop-node.invariant.steps.is) (c.loop-node.invariant.bodied i.source i.bodied) b inner in
    passes i.source c.loop-node.before c.in_ok-length-in-Branch.length p b a own
    (c.in_ok-length-in-Branch.ensures i.source b i.reads (inner ∙ sym c.split_at.ensures.front) fits.0)
    c.first_token.result (c.first_token.ensures b (inner ∙ sym c.split_at.ensures.front)) more)
    is c.loop-node.invariant.steps (record {
      source = s;
      reads = r;
      bodied = bodied_by c.forests_open.ensures c.forests_join.ensures c.derivations_are_forests.ensures s f c.args.below.now e h;
    }) f e

pub loop-node-preserved-else-is_item : goal.loop-node-preserved-else-is_item
loop-node-preserved-else-is_item c =
    let now = passing c.loop-node.before c.args.reader.now c.args.below.now in
    let whole = passing 0 c.args.reader.now c.args.below.now in
    let p = c.in-Branch.production in
    let is = c.in-Some.ensures ∙ ap (λ n. n ∷ c.in-Some.rest.now) c.in-Branch.is in
    let other : is_item p ≡ false = sym c.is_item.ensures ∙ c.if-is_item.false in
    let on : Steps now whole c.args.below.now c.in-Some.rest.now =
    step_into_branch c.forests_open.ensures now now whole c.args.below.now c.forests_join.ensures
    p c.in-Branch.count c.loop-node.left.now c.in-Some.rest.now
    (λ i b a e. ap (λ ps. least (item_past_length i.source c.loop-node.before ps)) (items_other c.forests_join.ensures p b a other))
    is c.loop-node.invariant.steps in
    record {
      steps = on;
      within = c.loop-node.invariant.within;
      bodied = λ s h.
          bodied_behind c.forests_open.ensures c.forests_join.ensures c.derivations_are_forests.ensures s p c.in-Branch.count c.loop-node.left.now c.in-Some.rest.now is (c.loop-node.invariant.steps.forest, c.loop-node.invariant.steps.is) (c.loop-node.invariant.bodied s h);
    }

pub loop-node-preserved : goal.loop-node-preserved
loop-node-preserved c =
    let now = passing c.loop-node.before c.args.reader.now c.args.below.now in
    let whole = passing 0 c.args.reader.now c.args.below.now in
    let is = c.in-Some.ensures ∙ ap (λ n. n ∷ c.in-Some.rest.now) c.in-Leaf.is in
    let on : Steps now whole c.args.below.now c.in-Some.rest.now =
    step_past_leaf c.forests_open.ensures now now whole c.args.below.now
    c.in-Leaf.token c.loop-node.left.now c.in-Some.rest.now (λ i a. refl) is c.loop-node.invariant.steps in
    record {
      steps = on;
      within = c.loop-node.invariant.within;
      bodied = λ s h.
          bodied_past_leaf c.forests_open.ensures c.forests_join.ensures c.derivations_are_forests.ensures s c.in-Leaf.token c.loop-node.left.now c.in-Some.rest.now is (c.loop-node.invariant.steps.forest, c.loop-node.invariant.steps.is) (c.loop-node.invariant.bodied s h);
    }

pub returns : goal.returns
returns c s f r e h =
    let now = passing c.loop-node.before c.args.reader.now c.args.below.now in
    step_at_end c.forests_open.ensures now now (passing 0 c.args.reader.now c.args.below.now) c.args.below.now
    c.loop-node.left.now c.in_default.ensures c.loop-node.invariant.steps (record {
      source = s;
      reads = r;
      bodied = bodied_by c.forests_open.ensures c.forests_join.ensures c.derivations_are_forests.ensures s f c.args.below.now e h;
    }) f e
