use Rattle.std.proofs.Common.{◌≡◌, ◌<◌, ◌∷◌, length, ap, sym, ◌∙◌, refl, subst, arith, rules}
use Rattle.std.specs.Prelude.{◌==◌, false, None}
use Rattle.ilasm_grammar.specs.declared.productions.TheConstants.{ITEM_TRY}
use Rattle.source_model.specs.Forest.{joined}
use Rattle.source_nodes.specs.Least.{least, sooner}
use Rattle.source_nodes.specs.Walk.{IsForest}
use Rattle.source_syntax.proofs.Stepping.{Steps, below_fits, below_is_forest, first_step, step_at_end, step_into_branch, step_past_branch, step_past_leaf}
use Rattle.check_visitor.proofs.AskingLemmas.{Bodied, bodied_after, bodied_behind, bodied_below, bodied_by, bodied_past_leaf, next_shorter, nothing_more, rest_shorter, below_shorter}
use Rattle.check_bodies.proofs.ClauseLemmas.{found_among, into_other, past_try, sought}
use Rattle.check_bodies.proofs.ShortBranchLemmas.{is_other}
use Rattle.check_bodies.proofs.clause_rules.+first_backwards.Goals as goal

pub loop-node-init : goal.loop-node-init
loop-node-init t c =
    let whole = sought c.args.reader.now c.args.places.now c.args.tried.now c.args.nodes.now None in
    let begun : Steps whole whole c.args.nodes.now c.args.nodes.now =
    first_step c.forests_open.ensures whole whole whole c.args.nodes.now c.derivations_are_forests.ensures c.requires.nodes in
    record { steps = begun; shorter = omega arith; bodied = λ s h. h }

pub split_at-requires : goal.split_at-requires
split_at-requires t c =
    let now = sought c.args.reader.now c.args.places.now c.args.tried.now c.args.nodes.now c.loop-node.found in
    let whole = sought c.args.reader.now c.args.places.now c.args.tried.now c.args.nodes.now None in
    below_fits c.forests_open.ensures now now whole c.args.nodes.now
    c.in-Branch.production c.in-Branch.count c.loop-node.left.now c.in-Some.rest.now
    (c.in-Some.ensures ∙ ap (λ n. n ∷ c.in-Some.rest.now) c.in-Branch.is) c.loop-node.invariant.steps

pub first_backwards-requires : goal.first_backwards-requires
first_backwards-requires t c =
    let now = sought c.args.reader.now c.args.places.now c.args.tried.now c.args.nodes.now c.loop-node.found in
    let whole = sought c.args.reader.now c.args.places.now c.args.tried.now c.args.nodes.now None in
    let is = c.in-Some.ensures ∙ ap (λ n. n ∷ c.in-Some.rest.now) c.in-Branch.is in
    let f =
    below_is_forest c.forests_open.ensures now now whole c.args.nodes.now
    c.in-Branch.production c.in-Branch.count c.loop-node.left.now c.in-Some.rest.now is c.loop-node.invariant.steps in
    let forest : IsForest c.split_at.result.0.now = (f.0, f.1 ∙ sym c.split_at.ensures.front) in
    let falls : length c.split_at.result.0.now < t =
    below_shorter c.in-Branch.production c.in-Branch.count c.loop-node.left.now c.in-Some.rest.now c.args.nodes.now c.split_at.result.0.now t is
    c.split_at.ensures.front c.loop-node.invariant.shorter c.decreases in
    search rules

pub backwards_at-requires : goal.backwards_at-requires
backwards_at-requires t c =
    let now = sought c.args.reader.now c.args.places.now c.args.tried.now c.args.nodes.now c.loop-node.found in
    let whole = sought c.args.reader.now c.args.places.now c.args.tried.now c.args.nodes.now None in
    let is = c.in-Some.ensures ∙ ap (λ n. n ∷ c.in-Some.rest.now) c.in-Branch.is in
    let f =
    below_is_forest c.forests_open.ensures now now whole c.args.nodes.now
    c.in-Branch.production c.in-Branch.count c.loop-node.left.now c.in-Some.rest.now is c.loop-node.invariant.steps in
    let forest : IsForest c.split_at.result.0.now = (f.0, f.1 ∙ sym c.split_at.ensures.front) in
    let outer : IsForest c.args.tried.now = c.requires.tried in
    search rules

pub loop-node-preserved-then-production-eq-ITEM_TRY : goal.loop-node-preserved-then-production-eq-ITEM_TRY
loop-node-preserved-then-production-eq-ITEM_TRY t c =
    let now = sought c.args.reader.now c.args.places.now c.args.tried.now c.args.nodes.now c.loop-node.found in
    let whole = sought c.args.reader.now c.args.places.now c.args.tried.now c.args.nodes.now None in
    let next = sought c.args.reader.now c.args.places.now c.args.tried.now c.args.nodes.now c.sooner-found.result in
    let is = c.in-Some.ensures ∙ ap (λ n. n ∷ c.in-Some.rest.now) c.in-Branch.is in
    let p = c.in-Branch.production in
    let left : IsForest c.loop-node.left.now = (c.loop-node.invariant.steps.forest, c.loop-node.invariant.steps.is) in
    let on : Steps next whole c.args.nodes.now c.split_at.result.1.now =
    subst (λ xs. Steps next whole c.args.nodes.now xs) (sym c.split_at.ensures.back)
    (step_past_branch c.forests_open.ensures now next whole c.args.nodes.now p c.in-Branch.count c.loop-node.left.now c.in-Some.rest.now
    (λ i b a e.
    let own = e ∙ sym c.split_at.ensures.front in
    let fits = bodied_below c.forests_open.ensures c.forests_join.ensures c.derivations_are_forests.ensures i.source p c.in-Branch.count c.loop-node.left.now c.in-Some.rest.now is
    left (c.loop-node.invariant.bodied i.source i.bodied) b e in
    ap (λ o. sooner o (least (found_among i.source i.node i.forest a))) c.sooner-found.ensures
    ∙ past_try i.source i.node i.forest p b a c.loop-node.found c.in_ok-within-in-Branch.within c.if-production-eq-ITEM_TRY.true
    (c.in_ok-within-in-Branch.ensures i.source i.node b b i.reads i.places fits.1 fits.1 own own))
    is c.loop-node.invariant.steps) in
    record {
      steps = on;
      shorter = rest_shorter p c.in-Branch.count c.loop-node.left.now c.in-Some.rest.now c.args.nodes.now c.split_at.result.1.now is c.split_at.ensures.back c.loop-node.invariant.shorter;
      bodied = λ s h.
          subst (Bodied s) (sym c.split_at.ensures.back) (bodied_after c.forests_open.ensures c.forests_join.ensures c.derivations_are_forests.ensures s p c.in-Branch.count c.loop-node.left.now c.in-Some.rest.now is left (c.loop-node.invariant.bodied s h));
    }

pub loop-node-preserved-else-production-eq-ITEM_TRY : goal.loop-node-preserved-else-production-eq-ITEM_TRY
loop-node-preserved-else-production-eq-ITEM_TRY t c =
    let now = sought c.args.reader.now c.args.places.now c.args.tried.now c.args.nodes.now c.loop-node.found in
    let whole = sought c.args.reader.now c.args.places.now c.args.tried.now c.args.nodes.now None in
    let next = sought c.args.reader.now c.args.places.now c.args.tried.now c.args.nodes.now c.sooner-found-else-production-eq-ITEM_TRY.result in
    let is = c.in-Some.ensures ∙ ap (λ n. n ∷ c.in-Some.rest.now) c.in-Branch.is in
    let p = c.in-Branch.production in
    let left : IsForest c.loop-node.left.now = (c.loop-node.invariant.steps.forest, c.loop-node.invariant.steps.is) in
    let other : (p == ITEM_TRY) ≡ false = is_other p p ITEM_TRY refl c.if-production-eq-ITEM_TRY.false in
    let on : Steps next whole c.args.nodes.now c.in-Some.rest.now =
    step_into_branch c.forests_open.ensures now next whole c.args.nodes.now c.forests_join.ensures
    p c.in-Branch.count c.loop-node.left.now c.in-Some.rest.now
    (λ i b a e.
    let own = e ∙ sym c.split_at.ensures.front in
    let fits = bodied_below c.forests_open.ensures c.forests_join.ensures c.derivations_are_forests.ensures i.source p c.in-Branch.count c.loop-node.left.now c.in-Some.rest.now is
    left (c.loop-node.invariant.bodied i.source i.bodied) b e in
    ap (λ o. sooner o (least (found_among i.source i.node i.forest (joined b a)))) c.sooner-found-else-production-eq-ITEM_TRY.ensures
    ∙ into_other i.source i.node i.forest p b a c.loop-node.found c.in_ok-here-in-Branch.here other
    (c.in_ok-here-in-Branch.ensures i.source i.node i.forest b i.reads i.places i.tried-bodies fits.1 i.tried-is own))
    is c.loop-node.invariant.steps in
    record {
      steps = on;
      shorter = next_shorter c.loop-node.left.now c.in-Some.rest.now c.args.nodes.now c.in-Some.node c.in-Some.ensures c.loop-node.invariant.shorter;
      bodied = λ s h.
          bodied_behind c.forests_open.ensures c.forests_join.ensures c.derivations_are_forests.ensures s p c.in-Branch.count c.loop-node.left.now c.in-Some.rest.now is left (c.loop-node.invariant.bodied s h);
    }

pub loop-node-preserved : goal.loop-node-preserved
loop-node-preserved t c =
    let now = sought c.args.reader.now c.args.places.now c.args.tried.now c.args.nodes.now c.loop-node.found in
    let whole = sought c.args.reader.now c.args.places.now c.args.tried.now c.args.nodes.now None in
    let on : Steps now whole c.args.nodes.now c.in-Some.rest.now =
    step_past_leaf c.forests_open.ensures now now whole c.args.nodes.now
    c.in-Leaf.token c.loop-node.left.now c.in-Some.rest.now (λ i a. refl)
    (c.in-Some.ensures ∙ ap (λ n. n ∷ c.in-Some.rest.now) c.in-Leaf.is) c.loop-node.invariant.steps in
    record {
      steps = on;
      shorter = next_shorter c.loop-node.left.now c.in-Some.rest.now c.args.nodes.now c.in-Some.node c.in-Some.ensures c.loop-node.invariant.shorter;
      bodied = λ s h.
          bodied_past_leaf c.forests_open.ensures c.forests_join.ensures c.derivations_are_forests.ensures s c.in-Leaf.token c.loop-node.left.now c.in-Some.rest.now (c.in-Some.ensures ∙ ap (λ n. n ∷ c.in-Some.rest.now) c.in-Leaf.is) (c.loop-node.invariant.steps.forest, c.loop-node.invariant.steps.is) (c.loop-node.invariant.bodied s h);
    }

pub returns : goal.returns
returns t c s n tried f r places outer h et e =
    let now = sought c.args.reader.now c.args.places.now c.args.tried.now c.args.nodes.now c.loop-node.found in
    let whole = sought c.args.reader.now c.args.places.now c.args.tried.now c.args.nodes.now None in
    nothing_more c.loop-node.found
    ∙ step_at_end c.forests_open.ensures now now whole c.args.nodes.now
    c.loop-node.left.now c.in_default.ensures c.loop-node.invariant.steps (record {
      source = s;
      node = n;
      forest = tried;
      reads = r;
      places = places;
      tried-bodies = outer;
      tried-is = et;
      bodied = bodied_by c.forests_open.ensures c.forests_join.ensures c.derivations_are_forests.ensures s f c.args.nodes.now e h;
    }) f e
