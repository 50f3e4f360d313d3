use Rattle.std.proofs.Common.{◌≡◌, ◌∷◌, ap, sym, ◌∙◌, refl, subst}
use Rattle.std.specs.Prelude.{Some, true, false}
use Rattle.check_names.specs.ClassSizes.{is_member}
use Rattle.check_names.proofs.ClassSizes.{ending, into_other, past_member}
use Rattle.source_syntax.proofs.Stepping.{Steps, below_fits, below_is_forest, first_step, step_at_end, step_into_branch, step_past_branch, step_past_leaf}
use Rattle.check_names.proofs.class_sizes.last_size.Goals as goal

pub loop-node-init : goal.loop-node-init
loop-node-init c =
    let whole = ending (Some 0) c.args.reader.now in
    let begun : Steps whole whole c.args.class.now c.args.class.now =
    first_step c.forests_open.ensures whole whole whole c.args.class.now c.derivations_are_forests.ensures c.requires in
    begun

pub split_at-requires : goal.split_at-requires
split_at-requires c =
    let now = ending c.loop-node.last c.args.reader.now in
    below_fits c.forests_open.ensures now now (ending (Some 0) c.args.reader.now) c.args.class.now
    c.in-Branch.production c.in-Branch.count c.loop-node.left.now c.in-Some.rest.now
    (c.in-Some.ensures ∙ ap (λ n. n ∷ c.in-Some.rest.now) c.in-Branch.is) c.loop-node.invariant

pub size_or-last-requires : goal.size_or-last-requires
size_or-last-requires c =
    let now = ending c.loop-node.last c.args.reader.now in
    let f =
    below_is_forest c.forests_open.ensures now now (ending (Some 0) c.args.reader.now) c.args.class.now
    c.in-Branch.production c.in-Branch.count c.loop-node.left.now c.in-Some.rest.now
    (c.in-Some.ensures ∙ ap (λ n. n ∷ c.in-Some.rest.now) c.in-Branch.is) c.loop-node.invariant in
    (f.0, f.1 ∙ sym c.split_at.ensures.front)

pub loop-node-preserved-then-is_member : goal.loop-node-preserved-then-is_member
loop-node-preserved-then-is_member c =
    let now = ending c.loop-node.last c.args.reader.now in
    let next = ending c.size_or-last.result c.args.reader.now in
    let whole = ending (Some 0) c.args.reader.now in
    let p = c.in-Branch.production in
    let own : is_member p ≡ true = sym c.is_member.ensures ∙ c.if-is_member.true in
    let on : Steps next whole c.args.class.now c.split_at.result.1.now =
    subst (λ left. Steps next whole c.args.class.now left) (sym c.split_at.ensures.back)
    (step_past_branch c.forests_open.ensures now next whole c.args.class.now p c.in-Branch.count c.loop-node.left.now c.in-Some.rest.now
    (λ i b a e.
    past_member i.0 p c.loop-node.last c.size_or-last.result b a own
    (c.size_or-last.ensures i.0 b i.1 (e ∙ sym c.split_at.ensures.front)))
    (c.in-Some.ensures ∙ ap (λ n. n ∷ c.in-Some.rest.now) c.in-Branch.is) c.loop-node.invariant) in
    on

pub loop-node-preserved-else-is_member : goal.loop-node-preserved-else-is_member
loop-node-preserved-else-is_member c =
    let now = ending c.loop-node.last c.args.reader.now in
    let whole = ending (Some 0) c.args.reader.now in
    let p = c.in-Branch.production in
    let other : is_member p ≡ false = sym c.is_member.ensures ∙ c.if-is_member.false in
    let on : Steps now whole c.args.class.now c.in-Some.rest.now =
    step_into_branch c.forests_open.ensures now now whole c.args.class.now c.forests_join.ensures
    p c.in-Branch.count c.loop-node.left.now c.in-Some.rest.now
    (λ i b a e. into_other i.0 c.forests_join.ensures p c.loop-node.last b a other)
    (c.in-Some.ensures ∙ ap (λ n. n ∷ c.in-Some.rest.now) c.in-Branch.is) c.loop-node.invariant in
    on

pub loop-node-preserved : goal.loop-node-preserved
loop-node-preserved c =
    let now = ending c.loop-node.last c.args.reader.now in
    let whole = ending (Some 0) c.args.reader.now in
    let on : Steps now whole c.args.class.now c.in-Some.rest.now =
    step_past_leaf c.forests_open.ensures now now whole c.args.class.now
    c.in-Leaf.token c.loop-node.left.now c.in-Some.rest.now (λ i a. refl)
    (c.in-Some.ensures ∙ ap (λ n. n ∷ c.in-Some.rest.now) c.in-Leaf.is) c.loop-node.invariant in
    on

pub returns : goal.returns
returns c s f r e =
    let now = ending c.loop-node.last c.args.reader.now in
    step_at_end c.forests_open.ensures now now (ending (Some 0) c.args.reader.now) c.args.class.now
    c.loop-node.left.now c.in_default.ensures c.loop-node.invariant (s, r) f e
