use Rattle.std.proofs.Common.{◌≡◌, ◌∷◌, [], ap, sym, ◌∙◌, refl, subst, arith}
use Rattle.std.specs.Prelude.{true, false, ◌==◌}
use Rattle.source_model.specs.Forest.{child, preorder}
use Rattle.source_flags.specs.FlagRows.{end_of, more_of}
use Rattle.source_flags.proofs.FlagLemmas.{after_all, after_end, after_flag, after_more, asked}
use Rattle.source_syntax.proofs.Stepping.{Steps, below_fits, below_is_forest, first_step, step_at_end, step_into_branch, step_past_branch, step_past_leaf}
use Rattle.source_flags.proofs.flag_rows.row_flags.Goals as goal

pub loop-node-init : goal.loop-node-init
loop-node-init c =
    let whole = asked c.args.reader.now c.args.row 0 in
    let begun : Steps whole whole c.child-left.result.now c.child-left.result.now =
    first_step c.forests_open.ensures whole whole whole c.child-left.result.now c.derivations_are_forests.ensures (
      child (more_of c.args.row ∷ []) c.requires.0,
      ap (λ p. preorder (child (p ∷ []) c.requires.0)) (sym c.more.ensures) ∙ sym (c.child-left.ensures c.requires.0 c.requires.1),
    ) in
    record { steps = begun; fits = omega arith }

pub loop-node-preserved-then-production-more : goal.loop-node-preserved-then-production-more
loop-node-preserved-then-production-more c =
    let now = asked c.args.reader.now c.args.row c.loop-node.flags in
    let p = c.in-Branch.production in
    let more : (p == more_of c.args.row) ≡ true = grind (arith, c.if-production-more.true, c.more-in-Branch.ensures) in
    let whole = asked c.args.reader.now c.args.row 0 in
    let on : Steps now whole c.child-left.result.now c.in-Some.rest.now =
    step_into_branch c.forests_open.ensures now now whole c.child-left.result.now c.forests_join.ensures
    p c.in-Branch.count c.loop-node.left.now c.in-Some.rest.now
    (λ i b a e. after_more i.0 c.args.row c.loop-node.flags p b a more)
    (c.in-Some.ensures ∙ ap (λ n. n ∷ c.in-Some.rest.now) c.in-Branch.is) c.loop-node.invariant.steps in
    record { steps = on; fits = c.loop-node.invariant.fits }

pub split_at-requires : goal.split_at-requires
split_at-requires c =
    let now = asked c.args.reader.now c.args.row c.loop-node.flags in
    below_fits c.forests_open.ensures now now (asked c.args.reader.now c.args.row 0) c.child-left.result.now
    c.in-Branch.production c.in-Branch.count c.loop-node.left.now c.in-Some.rest.now
    (c.in-Some.ensures ∙ ap (λ n. n ∷ c.in-Some.rest.now) c.in-Branch.is) c.loop-node.invariant.steps

pub with_flag-flags-requires : goal.with_flag-flags-requires
with_flag-flags-requires c =
    let now = asked c.args.reader.now c.args.row c.loop-node.flags in
    let f =
    below_is_forest c.forests_open.ensures now now (asked c.args.reader.now c.args.row 0) c.child-left.result.now
    c.in-Branch.production c.in-Branch.count c.loop-node.left.now c.in-Some.rest.now
    (c.in-Some.ensures ∙ ap (λ n. n ∷ c.in-Some.rest.now) c.in-Branch.is) c.loop-node.invariant.steps in
    (f.0, f.1 ∙ sym c.split_at.ensures.front)

pub loop-node-preserved-then-production-end : goal.loop-node-preserved-then-production-end
loop-node-preserved-then-production-end c =
    let now = asked c.args.reader.now c.args.row c.loop-node.flags in
    let whole = asked c.args.reader.now c.args.row 0 in
    let p = c.in-Branch.production in
    let more : (p == more_of c.args.row) ≡ false = grind (arith, c.if-production-more.false, c.more-in-Branch.ensures) in
    let end : (p == end_of c.args.row) ≡ true = grind (arith, c.if-production-end.true, c.end.ensures) in
    let on : Steps now whole c.child-left.result.now c.split_at.result.1.now =
    subst (λ left. Steps now whole c.child-left.result.now left) (sym c.split_at.ensures.back)
    (step_past_branch c.forests_open.ensures now now whole c.child-left.result.now p c.in-Branch.count c.loop-node.left.now c.in-Some.rest.now
    (λ i b a e. after_end i.0 c.args.row c.loop-node.flags p b a more end)
    (c.in-Some.ensures ∙ ap (λ n. n ∷ c.in-Some.rest.now) c.in-Branch.is) c.loop-node.invariant.steps) in
    record { steps = on; fits = c.loop-node.invariant.fits }

pub loop-node-preserved-else-production-end : goal.loop-node-preserved-else-production-end
loop-node-preserved-else-production-end c =
    let now = asked c.args.reader.now c.args.row c.loop-node.flags in
    let next = asked c.args.reader.now c.args.row c.with_flag-flags.result in
    let whole = asked c.args.reader.now c.args.row 0 in
    let p = c.in-Branch.production in
    let more : (p == more_of c.args.row) ≡ false = grind (arith, c.if-production-more.false, c.more-in-Branch.ensures) in
    let end : (p == end_of c.args.row) ≡ false = grind (arith, c.if-production-end.false, c.end.ensures) in
    let on : Steps next whole c.child-left.result.now c.split_at.result.1.now =
    subst (λ left. Steps next whole c.child-left.result.now left) (sym c.split_at.ensures.back)
    (step_past_branch c.forests_open.ensures now next whole c.child-left.result.now p c.in-Branch.count c.loop-node.left.now c.in-Some.rest.now
    (λ i b a e. after_flag i.0 c.args.row c.loop-node.flags p b a more end c.with_flag-flags.result
    (c.with_flag-flags.ensures i.0 b i.1 (e ∙ sym c.split_at.ensures.front)))
    (c.in-Some.ensures ∙ ap (λ n. n ∷ c.in-Some.rest.now) c.in-Branch.is) c.loop-node.invariant.steps) in
    record { steps = on; fits = c.with_flag-flags.type_inv }

pub loop-node-preserved : goal.loop-node-preserved
loop-node-preserved c =
    let now = asked c.args.reader.now c.args.row c.loop-node.flags in
    let whole = asked c.args.reader.now c.args.row 0 in
    let on : Steps now whole c.child-left.result.now c.in-Some.rest.now =
    step_past_leaf c.forests_open.ensures now now whole c.child-left.result.now
    c.in-Leaf.token c.loop-node.left.now c.in-Some.rest.now (λ i a. refl)
    (c.in-Some.ensures ∙ ap (λ n. n ∷ c.in-Some.rest.now) c.in-Leaf.is) c.loop-node.invariant.steps in
    record { steps = on; fits = c.loop-node.invariant.fits }

pub returns : goal.returns
returns c s f r e =
    let now = asked c.args.reader.now c.args.row c.loop-node.flags in
    after_all s c.args.row c.loop-node.flags c.loop-node.invariant.fits
    ∙ step_at_end c.forests_open.ensures now now (asked c.args.reader.now c.args.row 0) c.child-left.result.now
    c.loop-node.left.now c.in_default.ensures c.loop-node.invariant.steps (s, r) (child (more_of c.args.row ∷ []) f)
    (ap (λ p. preorder (child (p ∷ []) f)) (sym c.more.ensures) ∙ sym (c.child-left.ensures f e))
