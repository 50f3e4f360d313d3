use Rattle.std.proofs.Common.{arith, ◌≡◌, subst, ℕ}
use Rattle.code_flow.specs.Regions.{AddsTo}
use Rattle.code_flow.proofs.clauses.add_to.Goals as goal

pub returns-clause-adds : goal.returns-clause-adds
returns-clause-adds c =
    let e : c.loop-k.k ≡ c.args.end = omega (arith, c.loop-k-test.false, c.loop-k.auto.k-end, c.requires.order) in
    subst (λ (k : ℕ). AddsTo c.args.first k c.args.place c.args.clause.now c.args.regions.now.items c.loop-k.regions.items) e c.loop-k.invariant.0
