use Rattle.std.proofs.Common.{◌≡◌, ◌∷◌, ap, sym, ◌∙◌, refl, subst, arith}
use Rattle.std.specs.Prelude.{true, false, ◌==◌}
use Rattle.source_syntax.proofs.Stepping.{Steps, below_fits, first_step, step_at_branch, step_at_end, step_past_branch, step_past_leaf}
use Rattle.check_bodies.proofs.RangeNames.{asked, stands_here, stands_past}
use Rattle.check_bodies.proofs.clause_ranges.stands.Goals as goal

pub loop-node-init : goal.loop-node-init
loop-node-init c =
    let whole = asked c.args.production in
    first_step c.forests_open.ensures whole whole whole c.args.nodes.now c.derivations_are_forests.ensures c.requires

pub split_at-requires : goal.split_at-requires
split_at-requires c =
    let whole = asked c.args.production in
    below_fits c.forests_open.ensures whole whole whole c.args.nodes.now
    c.in-Branch.p c.in-Branch.count c.loop-node.left.now c.in-Some.rest.now
    (c.in-Some.ensures ∙ ap (λ n. n ∷ c.in-Some.rest.now) c.in-Branch.is) c.loop-node.invariant

pub returns-then-p-production : goal.returns-then-p-production
returns-then-p-production c f e =
    let whole = asked c.args.production in
    let q = c.in-Branch.p in
    let own : (c.args.production == q) ≡ true = grind arith in
    step_at_branch c.forests_open.ensures whole whole whole c.args.nodes.now
    true q c.in-Branch.count c.loop-node.left.now c.in-Some.rest.now
    (λ i b a h. stands_here c.args.production q b a own)
    (c.in-Some.ensures ∙ ap (λ n. n ∷ c.in-Some.rest.now) c.in-Branch.is) c.loop-node.invariant tt f e

pub loop-node-preserved-in-Branch : goal.loop-node-preserved-in-Branch
loop-node-preserved-in-Branch c =
    let whole = asked c.args.production in
    let q = c.in-Branch.p in
    let other : (c.args.production == q) ≡ false = grind arith in
    subst (λ left. Steps whole whole c.args.nodes.now left) (sym c.split_at.ensures.back)
    (step_past_branch c.forests_open.ensures whole whole whole c.args.nodes.now q c.in-Branch.count c.loop-node.left.now c.in-Some.rest.now
    (λ i b a e. stands_past c.args.production q b a other)
    (c.in-Some.ensures ∙ ap (λ n. n ∷ c.in-Some.rest.now) c.in-Branch.is) c.loop-node.invariant)

pub loop-node-preserved : goal.loop-node-preserved
loop-node-preserved c =
    let whole = asked c.args.production in
    step_past_leaf c.forests_open.ensures whole whole whole c.args.nodes.now
    c.in-Leaf.token c.loop-node.left.now c.in-Some.rest.now (λ i a. refl)
    (c.in-Some.ensures ∙ ap (λ n. n ∷ c.in-Some.rest.now) c.in-Leaf.is) c.loop-node.invariant

pub returns : goal.returns
returns c f e =
    let whole = asked c.args.production in
    step_at_end c.forests_open.ensures whole whole whole c.args.nodes.now c.loop-node.left.now c.in_default.ensures c.loop-node.invariant tt f e
