use Rattle.std.proofs.Common.{◌≡◌, ◌<◌, ◌^◌, ◌∷◌, length, ap, sym, ◌∙◌, refl, subst, arith, rules}
use Rattle.std.specs.Prelude.{false, None}
use Rattle.source_model.specs.Forest.{joined}
use Rattle.source_model.specs.Nodes.{entered, typar_names}
use Rattle.source_nodes.specs.Least.{least, sooner}
use Rattle.check_visitor.specs.Surroundings.{found_in, is_scope, HasParameters, IsSurrounding}
use Rattle.source_nodes.specs.Walk.{IsForest}
use Rattle.check_visitor.proofs.AskingLemmas.{Bodied, bodied_after, bodied_behind, bodied_below, bodied_by, bodied_past_leaf, into_parts, next_shorter, node_of, left_shorter, nothing_more, past_scope, quiet_left, rest_shorter, same_around, below_shorter, few_typars, sought}
use Rattle.source_syntax.proofs.Stepping.{Steps, below_fits, below_is_forest, first_step, step_at_end, step_into_branch, step_past_branch, step_past_leaf}
use Rattle.check_visitor.proofs.asking.+first_among.Goals as goal

pub loop-node-init : goal.loop-node-init
loop-node-init g t c =
    let whole = sought (g.R.Rule.broken c.args.rule.now) c.args.reader.now c.args.place.now c.args.none.now c.args.nodes.now None in
    let begun : Steps whole whole c.args.nodes.now c.args.nodes.now =
    first_step c.forests_open.ensures whole whole whole c.args.nodes.now c.derivations_are_forests.ensures c.requires in
    record { steps = begun; shorter = omega arith; bodied = λ s h. h }

pub split_at-requires : goal.split_at-requires
split_at-requires g t c =
    let way = quiet_left c.forests_open.ensures c.forests_join.ensures c.derivations_are_forests.ensures (g.R.Rule.broken c.args.rule.now) c.args.reader.now c.args.place.now c.args.none.now c.args.nodes.now c.loop-node.found
    c.loop-node.left.now c.past_quiet.result.now c.past_quiet.ensures c.loop-node.invariant.steps c.loop-node.invariant.bodied in
    let now = sought (g.R.Rule.broken c.args.rule.now) c.args.reader.now c.args.place.now c.args.none.now c.args.nodes.now c.loop-node.found in
    let whole = sought (g.R.Rule.broken c.args.rule.now) c.args.reader.now c.args.place.now c.args.none.now c.args.nodes.now None in
    below_fits c.forests_open.ensures now now whole c.args.nodes.now
    c.in-Branch.production c.in-Branch.count c.past_quiet.result.now c.in-Some.rest.now
    (c.in-Some.ensures ∙ ap (λ n. n ∷ c.in-Some.rest.now) c.in-Branch.is) way.0

pub first-requires : goal.first-requires
first-requires g t c =
    let way = quiet_left c.forests_open.ensures c.forests_join.ensures c.derivations_are_forests.ensures (g.R.Rule.broken c.args.rule.now) c.args.reader.now c.args.place.now c.args.none.now c.args.nodes.now c.loop-node.found
    c.loop-node.left.now c.past_quiet.result.now c.past_quiet.ensures c.loop-node.invariant.steps c.loop-node.invariant.bodied in
    let now = sought (g.R.Rule.broken c.args.rule.now) c.args.reader.now c.args.place.now c.args.none.now c.args.nodes.now c.loop-node.found in
    let whole = sought (g.R.Rule.broken c.args.rule.now) c.args.reader.now c.args.place.now c.args.none.now c.args.nodes.now None in
    let f =
    below_is_forest c.forests_open.ensures now now whole c.args.nodes.now
    c.in-Branch.production c.in-Branch.count c.past_quiet.result.now c.in-Some.rest.now
    (c.in-Some.ensures ∙ ap (λ n. n ∷ c.in-Some.rest.now) c.in-Branch.is) way.0 in
    (f.0, f.1 ∙ sym c.split_at.ensures.front)

pub own_typars-requires : goal.own_typars-requires
own_typars-requires g t c =
    let way = quiet_left c.forests_open.ensures c.forests_join.ensures c.derivations_are_forests.ensures (g.R.Rule.broken c.args.rule.now) c.args.reader.now c.args.place.now c.args.none.now c.args.nodes.now c.loop-node.found
    c.loop-node.left.now c.past_quiet.result.now c.past_quiet.ensures c.loop-node.invariant.steps c.loop-node.invariant.bodied in
    let now = sought (g.R.Rule.broken c.args.rule.now) c.args.reader.now c.args.place.now c.args.none.now c.args.nodes.now c.loop-node.found in
    let whole = sought (g.R.Rule.broken c.args.rule.now) c.args.reader.now c.args.place.now c.args.none.now c.args.nodes.now None in
    let f =
    below_is_forest c.forests_open.ensures now now whole c.args.nodes.now
    c.in-Branch.production c.in-Branch.count c.past_quiet.result.now c.in-Some.rest.now
    (c.in-Some.ensures ∙ ap (λ n. n ∷ c.in-Some.rest.now) c.in-Branch.is) way.0 in
    (f.0, f.1 ∙ sym c.split_at.ensures.front)

pub parameters_in-parameters-requires : goal.parameters_in-parameters-requires
parameters_in-parameters-requires g t c =
    let way = quiet_left c.forests_open.ensures c.forests_join.ensures c.derivations_are_forests.ensures (g.R.Rule.broken c.args.rule.now) c.args.reader.now c.args.place.now c.args.none.now c.args.nodes.now c.loop-node.found
    c.loop-node.left.now c.past_quiet.result.now c.past_quiet.ensures c.loop-node.invariant.steps c.loop-node.invariant.bodied in
    let now = sought (g.R.Rule.broken c.args.rule.now) c.args.reader.now c.args.place.now c.args.none.now c.args.nodes.now c.loop-node.found in
    let whole = sought (g.R.Rule.broken c.args.rule.now) c.args.reader.now c.args.place.now c.args.none.now c.args.nodes.now None in
    let f =
    below_is_forest c.forests_open.ensures now now whole c.args.nodes.now
    c.in-Branch.production c.in-Branch.count c.past_quiet.result.now c.in-Some.rest.now
    (c.in-Some.ensures ∙ ap (λ n. n ∷ c.in-Some.rest.now) c.in-Branch.is) way.0 in
    (f.0, f.1 ∙ sym c.split_at.ensures.front)

pub first-requires-else-is_scope : goal.first-requires-else-is_scope
first-requires-else-is_scope g t c =
    let way = quiet_left c.forests_open.ensures c.forests_join.ensures c.derivations_are_forests.ensures (g.R.Rule.broken c.args.rule.now) c.args.reader.now c.args.place.now c.args.none.now c.args.nodes.now c.loop-node.found
    c.loop-node.left.now c.past_quiet.result.now c.past_quiet.ensures c.loop-node.invariant.steps c.loop-node.invariant.bodied in
    let now = sought (g.R.Rule.broken c.args.rule.now) c.args.reader.now c.args.place.now c.args.none.now c.args.nodes.now c.loop-node.found in
    let whole = sought (g.R.Rule.broken c.args.rule.now) c.args.reader.now c.args.place.now c.args.none.now c.args.nodes.now None in
    let f =
    below_is_forest c.forests_open.ensures now now whole c.args.nodes.now
    c.in-Branch.production c.in-Branch.count c.past_quiet.result.now c.in-Some.rest.now
    (c.in-Some.ensures ∙ ap (λ n. n ∷ c.in-Some.rest.now) c.in-Branch.is) way.0 in
    (f.0, f.1 ∙ sym c.split_at.ensures.front)

pub first_among-requires : goal.first_among-requires
first_among-requires g t c κs within =
    let way = quiet_left c.forests_open.ensures c.forests_join.ensures c.derivations_are_forests.ensures (g.R.Rule.broken c.args.rule.now) c.args.reader.now c.args.place.now c.args.none.now c.args.nodes.now c.loop-node.found
    c.loop-node.left.now c.past_quiet.result.now c.past_quiet.ensures c.loop-node.invariant.steps c.loop-node.invariant.bodied in
    let short = left_shorter c.past_quiet.ensures.many c.loop-node.left.now c.args.nodes.now c.past_quiet.result.now c.past_quiet.ensures.left-is c.loop-node.invariant.shorter in
    let now = sought (g.R.Rule.broken c.args.rule.now) c.args.reader.now c.args.place.now c.args.none.now c.args.nodes.now c.loop-node.found in
    let whole = sought (g.R.Rule.broken c.args.rule.now) c.args.reader.now c.args.place.now c.args.none.now c.args.nodes.now None in
    let is = c.in-Some.ensures ∙ ap (λ n. n ∷ c.in-Some.rest.now) c.in-Branch.is in
    let f =
    below_is_forest c.forests_open.ensures now now whole c.args.nodes.now
    c.in-Branch.production c.in-Branch.count c.past_quiet.result.now c.in-Some.rest.now is way.0 in
    let falls : length c.split_at.result.0.now < t =
    below_shorter c.in-Branch.production c.in-Branch.count c.past_quiet.result.now c.in-Some.rest.now c.args.nodes.now c.split_at.result.0.now t is
    c.split_at.ensures.front short c.decreases in
    let forest : IsForest c.split_at.result.0.now = (f.0, f.1 ∙ sym c.split_at.ensures.front) in
    search rules

pub loop-node-preserved-in_ok-within-in-Branch : goal.loop-node-preserved-in_ok-within-in-Branch
loop-node-preserved-in_ok-within-in-Branch g t c =
    let way = quiet_left c.forests_open.ensures c.forests_join.ensures c.derivations_are_forests.ensures (g.R.Rule.broken c.args.rule.now) c.args.reader.now c.args.place.now c.args.none.now c.args.nodes.now c.loop-node.found
    c.loop-node.left.now c.past_quiet.result.now c.past_quiet.ensures c.loop-node.invariant.steps c.loop-node.invariant.bodied in
    let short = left_shorter c.past_quiet.ensures.many c.loop-node.left.now c.args.nodes.now c.past_quiet.result.now c.past_quiet.ensures.left-is c.loop-node.invariant.shorter in
    let broken = g.R.Rule.broken c.args.rule.now in
    let now = sought broken c.args.reader.now c.args.place.now c.args.none.now c.args.nodes.now c.loop-node.found in
    let next = sought broken c.args.reader.now c.args.place.now c.args.none.now c.args.nodes.now c.sooner-found.result in
    let whole = sought broken c.args.reader.now c.args.place.now c.args.none.now c.args.nodes.now None in
    let p = c.in-Branch.production in
    let is = c.in-Some.ensures ∙ ap (λ n. n ∷ c.in-Some.rest.now) c.in-Branch.is in
    let on : Steps next whole c.args.nodes.now c.split_at.result.1.now =
    subst (λ left. Steps next whole c.args.nodes.now left) (sym c.split_at.ensures.back)
    (step_past_branch c.forests_open.ensures now next whole c.args.nodes.now p c.in-Branch.count c.past_quiet.result.now c.in-Some.rest.now
    (λ i b a e.
    let own = e ∙ sym c.split_at.ensures.front in
    let inner = c.entered-inner.ensures.around i.source i.around b i.place own in
    let fits = bodied_below c.forests_open.ensures c.forests_join.ensures c.derivations_are_forests.ensures i.source p c.in-Branch.count c.past_quiet.result.now c.in-Some.rest.now is
    (way.0.forest, way.0.is) (way.1 i.source i.bodied) b e in
    let has = c.entered-inner.ensures.parameters i.source i.around b i.parameters i.parameters.class (c.names_or.ensures (typar_names i.source b) i.empty (c.in_ok-typars-in-Branch.ensures i.source b i.reads own fits.1))
    i.empty (c.parameters_in-parameters.ensures b own)
    (few_typars i.source b c.in-Branch.count (2 ^ 32) c.in-Some.rest.now e (search rules)) in
    ap (λ o. sooner o (least (found_in broken i.source i.around a)))
    (c.sooner-found.ensures ∙ ap (sooner c.loop-node.found) c.sooner.ensures)
    ∙ past_scope broken i.source i.around p b a c.loop-node.found c.in_ok-here-in-Branch.here c.in_ok-within-in-Branch.within
    (c.in_ok-here-in-Branch.ensures i.source (node_of broken i.source i.around p b) i.reads (record { production-is = refl; below-is = own; place = inner }) (record { fits = fits.0; bodies = fits.1; parameters = has }))
    (c.in_ok-within-in-Branch.ensures i.source (entered i.source i.around p b) b i.empty i.reads inner own fits.1 has))
    is way.0) in
    record {
      steps = on;
      shorter = rest_shorter p c.in-Branch.count c.past_quiet.result.now c.in-Some.rest.now c.args.nodes.now c.split_at.result.1.now is c.split_at.ensures.back short;
      bodied = λ s h.
          subst (Bodied s) (sym c.split_at.ensures.back) (bodied_after c.forests_open.ensures c.forests_join.ensures c.derivations_are_forests.ensures s p c.in-Branch.count c.past_quiet.result.now c.in-Some.rest.now is (way.0.forest, way.0.is) (way.1 s h));
    }

pub loop-node-preserved-in_ok-within-in-Branch-2 : goal.loop-node-preserved-in_ok-within-in-Branch-2
loop-node-preserved-in_ok-within-in-Branch-2 g t c =
    let way = quiet_left c.forests_open.ensures c.forests_join.ensures c.derivations_are_forests.ensures (g.R.Rule.broken c.args.rule.now) c.args.reader.now c.args.place.now c.args.none.now c.args.nodes.now c.loop-node.found
    c.loop-node.left.now c.past_quiet.result.now c.past_quiet.ensures c.loop-node.invariant.steps c.loop-node.invariant.bodied in
    let short = left_shorter c.past_quiet.ensures.many c.loop-node.left.now c.args.nodes.now c.past_quiet.result.now c.past_quiet.ensures.left-is c.loop-node.invariant.shorter in
    let broken = g.R.Rule.broken c.args.rule.now in
    let now = sought broken c.args.reader.now c.args.place.now c.args.none.now c.args.nodes.now c.loop-node.found in
    let next = sought broken c.args.reader.now c.args.place.now c.args.none.now c.args.nodes.now c.sooner-found.result in
    let whole = sought broken c.args.reader.now c.args.place.now c.args.none.now c.args.nodes.now None in
    let p = c.in-Branch.production in
    let is = c.in-Some.ensures ∙ ap (λ n. n ∷ c.in-Some.rest.now) c.in-Branch.is in
    let on : Steps next whole c.args.nodes.now c.split_at.result.1.now =
    subst (λ left. Steps next whole c.args.nodes.now left) (sym c.split_at.ensures.back)
    (step_past_branch c.forests_open.ensures now next whole c.args.nodes.now p c.in-Branch.count c.past_quiet.result.now c.in-Some.rest.now
    (λ i b a e.
    let own = e ∙ sym c.split_at.ensures.front in
    let inner = c.entered-inner.ensures.around i.source i.around b i.place own in
    let fits = bodied_below c.forests_open.ensures c.forests_join.ensures c.derivations_are_forests.ensures i.source p c.in-Branch.count c.past_quiet.result.now c.in-Some.rest.now is
    (way.0.forest, way.0.is) (way.1 i.source i.bodied) b e in
    let has = c.entered-inner.ensures.parameters i.source i.around b i.parameters i.parameters.class (c.names_or.ensures (typar_names i.source b) i.empty (c.in_ok-typars-in-Branch.ensures i.source b i.reads own fits.1))
    i.empty (c.parameters_in-parameters.ensures b own)
    (few_typars i.source b c.in-Branch.count (2 ^ 32) c.in-Some.rest.now e (search rules)) in
    ap (λ o. sooner o (least (found_in broken i.source i.around a)))
    (c.sooner-found.ensures ∙ ap (sooner c.loop-node.found) c.sooner.ensures)
    ∙ past_scope broken i.source i.around p b a c.loop-node.found c.in_ok-here-in-Branch.here c.in_ok-within-in-Branch.within
    (c.in_ok-here-in-Branch.ensures i.source (node_of broken i.source i.around p b) i.reads (record { production-is = refl; below-is = own; place = inner }) (record { fits = fits.0; bodies = fits.1; parameters = has }))
    (c.in_ok-within-in-Branch.ensures i.source (entered i.source i.around p b) b i.empty i.reads inner own fits.1 has))
    is way.0) in
    record {
      steps = on;
      shorter = rest_shorter p c.in-Branch.count c.past_quiet.result.now c.in-Some.rest.now c.args.nodes.now c.split_at.result.1.now is c.split_at.ensures.back short;
      bodied = λ s h.
          subst (Bodied s) (sym c.split_at.ensures.back) (bodied_after c.forests_open.ensures c.forests_join.ensures c.derivations_are_forests.ensures s p c.in-Branch.count c.past_quiet.result.now c.in-Some.rest.now is (way.0.forest, way.0.is) (way.1 s h));
    }

pub loop-node-preserved-else-is_scope : goal.loop-node-preserved-else-is_scope
loop-node-preserved-else-is_scope g t c =
    let way = quiet_left c.forests_open.ensures c.forests_join.ensures c.derivations_are_forests.ensures (g.R.Rule.broken c.args.rule.now) c.args.reader.now c.args.place.now c.args.none.now c.args.nodes.now c.loop-node.found
    c.loop-node.left.now c.past_quiet.result.now c.past_quiet.ensures c.loop-node.invariant.steps c.loop-node.invariant.bodied in
    let short = left_shorter c.past_quiet.ensures.many c.loop-node.left.now c.args.nodes.now c.past_quiet.result.now c.past_quiet.ensures.left-is c.loop-node.invariant.shorter in
    let broken = g.R.Rule.broken c.args.rule.now in
    let now = sought broken c.args.reader.now c.args.place.now c.args.none.now c.args.nodes.now c.loop-node.found in
    let next = sought broken c.args.reader.now c.args.place.now c.args.none.now c.args.nodes.now c.sooner-found-else-is_scope.result in
    let whole = sought broken c.args.reader.now c.args.place.now c.args.none.now c.args.nodes.now None in
    let p = c.in-Branch.production in
    let is = c.in-Some.ensures ∙ ap (λ n. n ∷ c.in-Some.rest.now) c.in-Branch.is in
    let plain : is_scope p ≡ false = sym c.is_scope.ensures ∙ c.if-is_scope.false in
    let on : Steps next whole c.args.nodes.now c.in-Some.rest.now =
    step_into_branch c.forests_open.ensures now next whole c.args.nodes.now c.forests_join.ensures
    p c.in-Branch.count c.past_quiet.result.now c.in-Some.rest.now
    (λ i b a e.
    let own = e ∙ sym c.split_at.ensures.front in
    let same = sym (same_around broken i.source i.around p b plain) in
    let inner = subst (IsSurrounding c.args.place.now) same i.place in
    let has = subst (HasParameters i.source c.args.place.now) same i.parameters in
    let fits = bodied_below c.forests_open.ensures c.forests_join.ensures c.derivations_are_forests.ensures i.source p c.in-Branch.count c.past_quiet.result.now c.in-Some.rest.now is
    (way.0.forest, way.0.is) (way.1 i.source i.bodied) b e in
    ap (λ o. sooner o (least (found_in broken i.source i.around (joined b a)))) c.sooner-found-else-is_scope.ensures
    ∙ into_parts broken i.source i.around c.forests_join.ensures p b a c.loop-node.found c.in_ok-here-in-Branch-2.here plain
    (c.in_ok-here-in-Branch-2.ensures i.source (node_of broken i.source i.around p b) i.reads (record { production-is = refl; below-is = own; place = inner }) (record { fits = fits.0; bodies = fits.1; parameters = has })))
    is way.0 in
    record {
      steps = on;
      shorter = next_shorter c.past_quiet.result.now c.in-Some.rest.now c.args.nodes.now c.in-Some.node c.in-Some.ensures short;
      bodied = λ s h.
          bodied_behind c.forests_open.ensures c.forests_join.ensures c.derivations_are_forests.ensures s p c.in-Branch.count c.past_quiet.result.now c.in-Some.rest.now is (way.0.forest, way.0.is) (way.1 s h);
    }

pub loop-node-preserved : goal.loop-node-preserved
loop-node-preserved g t c =
    let way = quiet_left c.forests_open.ensures c.forests_join.ensures c.derivations_are_forests.ensures (g.R.Rule.broken c.args.rule.now) c.args.reader.now c.args.place.now c.args.none.now c.args.nodes.now c.loop-node.found
    c.loop-node.left.now c.past_quiet.result.now c.past_quiet.ensures c.loop-node.invariant.steps c.loop-node.invariant.bodied in
    let short = left_shorter c.past_quiet.ensures.many c.loop-node.left.now c.args.nodes.now c.past_quiet.result.now c.past_quiet.ensures.left-is c.loop-node.invariant.shorter in
    let broken = g.R.Rule.broken c.args.rule.now in
    let now = sought broken c.args.reader.now c.args.place.now c.args.none.now c.args.nodes.now c.loop-node.found in
    let whole = sought broken c.args.reader.now c.args.place.now c.args.none.now c.args.nodes.now None in
    let on : Steps now whole c.args.nodes.now c.in-Some.rest.now =
    step_past_leaf c.forests_open.ensures now now whole c.args.nodes.now
    c.in-Leaf.token c.past_quiet.result.now c.in-Some.rest.now (λ i a. refl)
    (c.in-Some.ensures ∙ ap (λ n. n ∷ c.in-Some.rest.now) c.in-Leaf.is) way.0 in
    record {
      steps = on;
      shorter = next_shorter c.past_quiet.result.now c.in-Some.rest.now c.args.nodes.now c.in-Some.node c.in-Some.ensures short;
      bodied = λ s h.
          bodied_past_leaf c.forests_open.ensures c.forests_join.ensures c.derivations_are_forests.ensures s c.in-Leaf.token c.past_quiet.result.now c.in-Some.rest.now (c.in-Some.ensures ∙ ap (λ n. n ∷ c.in-Some.rest.now) c.in-Leaf.is) (way.0.forest, way.0.is) (way.1 s h);
    }

pub returns : goal.returns
returns g t c s a f empty r p e h has =
    let way = quiet_left c.forests_open.ensures c.forests_join.ensures c.derivations_are_forests.ensures (g.R.Rule.broken c.args.rule.now) c.args.reader.now c.args.place.now c.args.none.now c.args.nodes.now c.loop-node.found
    c.loop-node.left.now c.past_quiet.result.now c.past_quiet.ensures c.loop-node.invariant.steps c.loop-node.invariant.bodied in
    let broken = g.R.Rule.broken c.args.rule.now in
    let now = sought broken c.args.reader.now c.args.place.now c.args.none.now c.args.nodes.now c.loop-node.found in
    let whole = sought broken c.args.reader.now c.args.place.now c.args.none.now c.args.nodes.now None in
    nothing_more c.loop-node.found
    ∙ step_at_end c.forests_open.ensures now now whole c.args.nodes.now
    c.past_quiet.result.now c.in_default.ensures way.0 (record {
      source = s;
      around = a;
      empty = empty;
      reads = r;
      place = p;
      parameters = has;
      bodied = bodied_by c.forests_open.ensures c.forests_join.ensures c.derivations_are_forests.ensures s f c.args.nodes.now e h;
    }) f e
