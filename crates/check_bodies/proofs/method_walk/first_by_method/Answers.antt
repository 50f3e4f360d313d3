use Rattle.std.proofs.Common.{◌≡◌, ◌∷◌, ap, sym, ◌∙◌, subst, arith}
use Rattle.std.specs.Prelude.{◌==◌, false}
use Rattle.ilasm_grammar.specs.declared.productions.TheConstants.{METHOD}
use Rattle.source_nodes.specs.Least.{sooner}
use Rattle.check_bodies.proofs.MethodWalks.{Walked, begin, below_branch, below_fits, ended, into_branch, past_leaf, past_method}
use Rattle.check_bodies.proofs.method_walk.first_by_method.Goals as goal

pub loop-node-init : goal.loop-node-init
loop-node-init g c =
    begin c.derivations_are_forests.ensures (g.R.MethodRule.broken c.args.rule.now) c.args.reader.now c.args.nodes.now c.requires

pub split_at-requires : goal.split_at-requires
split_at-requires g c =
    below_fits c.forests_open.ensures (g.R.MethodRule.broken c.args.rule.now) c.args.reader.now c.args.nodes.now c.loop-node.left.now c.in-Some.rest.now c.loop-node.found
    c.loop-node.invariant c.in-Branch.production c.in-Branch.count (c.in-Some.ensures ∙ ap (λ n. n ∷ c.in-Some.rest.now) c.in-Branch.is)

pub first-requires : goal.first-requires
first-requires g c =
    let f =
    below_branch c.forests_open.ensures (g.R.MethodRule.broken c.args.rule.now) c.args.reader.now c.args.nodes.now c.loop-node.left.now c.in-Some.rest.now c.loop-node.found
    c.loop-node.invariant c.in-Branch.production c.in-Branch.count (c.in-Some.ensures ∙ ap (λ n. n ∷ c.in-Some.rest.now) c.in-Branch.is) in
    (f.0, f.1 ∙ sym c.split_at.ensures.front)

pub loop-node-preserved-then-production-eq-METHOD : goal.loop-node-preserved-then-production-eq-METHOD
loop-node-preserved-then-production-eq-METHOD g c =
    let broken = g.R.MethodRule.broken c.args.rule.now in
    let reader = c.args.reader.now in
    let count = c.in-Branch.count in
    let rest = c.in-Some.rest.now in
    let here = c.in_ok-here-in-Branch.here in
    let own : c.in-Branch.production ≡ METHOD = grind arith in
    subst (Walked broken reader c.args.nodes.now c.split_at.result.1.now) (sym c.sooner-found.ensures)
    (subst (λ ns. Walked broken reader c.args.nodes.now ns (sooner c.loop-node.found here)) (sym c.split_at.ensures.back)
    (past_method c.forests_open.ensures broken reader c.args.nodes.now c.loop-node.left.now rest c.loop-node.found c.loop-node.invariant c.in-Branch.production count
    (c.in-Some.ensures ∙ ap (λ n. n ∷ rest) c.in-Branch.is) own here
    (λ s n reads is e. c.in_ok-here-in-Branch.ensures s n reads is (e ∙ sym c.split_at.ensures.front))))

pub loop-node-preserved-else-production-eq-METHOD : goal.loop-node-preserved-else-production-eq-METHOD
loop-node-preserved-else-production-eq-METHOD g c =
    let other : (METHOD == c.in-Branch.production) ≡ false = grind arith in
    into_branch c.forests_open.ensures (g.R.MethodRule.broken c.args.rule.now) c.args.reader.now c.args.nodes.now c.loop-node.left.now c.in-Some.rest.now c.loop-node.found
    c.loop-node.invariant c.forests_join.ensures c.in-Branch.production c.in-Branch.count (c.in-Some.ensures ∙ ap (λ n. n ∷ c.in-Some.rest.now) c.in-Branch.is) other

pub loop-node-preserved : goal.loop-node-preserved
loop-node-preserved g c =
    past_leaf c.forests_open.ensures (g.R.MethodRule.broken c.args.rule.now) c.args.reader.now c.args.nodes.now c.loop-node.left.now c.in-Some.rest.now c.loop-node.found
    c.loop-node.invariant c.in-Leaf.token (c.in-Some.ensures ∙ ap (λ n. n ∷ c.in-Some.rest.now) c.in-Leaf.is)

pub returns : goal.returns
returns g c s f ms reads e of =
    ended c.forests_open.ensures (g.R.MethodRule.broken c.args.rule.now) c.args.reader.now c.args.nodes.now c.loop-node.left.now c.loop-node.found c.in_default.ensures
    c.loop-node.invariant s f ms reads e of
