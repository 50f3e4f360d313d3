use Rattle.std.proofs.Common.{◌≡◌, ℕ, ◌+◌, ◌*◌, ◌≤◌, List, length, arith}
use Rattle.std.proofs.lemmas.Result.{IfOk-at_ok}
use Rattle.stack_states.specs.declared.state.State.{State}
use Rattle.body_verifier.specs.Potential.{total}
use Rattle.stack_states.specs.StateMeanings.{typing_of}
use Rattle.body_verifier.specs.StepBound.{step_bound}
use Rattle.body_verifier.specs.Ways.{IsSolved}
use Rattle.body_verifier.proofs.EdgeCounts.{budget_bound}
use Rattle.body_verifier.proofs.ShallowCounts.{shallow_bound, ok_joined}
use Rattle.body_verifier.proofs.WayLemmas.{all_ways_of}
use Rattle.body_verifier.proofs.solving.least_typing.Goals as goal

pub solve-requires : goal.solve-requires
solve-requires g c =
    let r = c.requires in
    (r.0, (r.1.0, (all_ways_of c.args.w.now.nodes c.args.stated.now g.at.frame c.args.goings.now r.1.1.1.0 r.1.1.0, (r.1.1.1.0.stated, (r.1.1.1.1.0, r.1.1.1.1.1)))))

pub returns-clause-bound : goal.returns-clause-bound
returns-clause-bound g c = λ pairs edges.
    let b = budget_bound g.at c.args.goings.now pairs c.requires.1.1.0 edges in
    omega (arith, b, c.solve.ensures.steps)

pub returns-clause-shallow : goal.returns-clause-shallow
returns-clause-shallow g c = λ d pairs deep apart edges.
    let goings = c.requires.1.1.0 in
    ok_joined c.solve.result (λ (states : List State). IsSolved g.at.frame c.solve.new.w.nodes states)
    (c.solve.new.steps ≤ c.args.steps.now + step_bound (length pairs) d g.at.top) c.solve.ensures.ok (λ states solved ok.
    shallow_bound g.at d c.args.goings.now pairs (typing_of c.solve.new.w.nodes states) c.args.steps.now c.solve.new.steps goings solved.least apart edges (λ cost enough.
    IfOk-at_ok (λ (_ : List State). c.solve.new.steps ≤ c.args.steps.now + (2 + d * g.at.top) * total cost (length g.at.frame.code)) ok (c.solve.ensures.shallow d cost deep enough)))
