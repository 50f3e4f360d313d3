use Rattle.std.proofs.Common.{◌≡◌, ◌+◌, ◌*◌, ◌≤◌, length, ℕ}
use Rattle.type_hierarchy.specs.World.{Stays}
use Rattle.body_verifier.specs.Potential.{potential, potential_at, total}
use Rattle.stack_states.specs.StateMeanings.{typing_of}
use Rattle.body_verifier.specs.Ways.{IsCost, IsDepth, IsUnderWay, step_budget}
use Rattle.body_verifier.proofs.SolveLemmas.{cost_of}
use Rattle.body_verifier.proofs.solving.solve.Given as goal

abbrev pub invariant-loop-k : goal.invariant-loop-k
invariant-loop-k g l =
    Stays l.initial.w l.w × IsUnderWay g.at l.w.nodes l.states l.list.numbers × (l.list.count ≡ length g.at.frame.code)
    × (l.steps + potential g.at.height g.at.top (cost_of (length g.at.frame.code) l.goings) (typing_of l.w.nodes l.states) l.list.numbers (length g.at.frame.code)
    ≤ l.initial.steps + step_budget g.at l.goings)
    × ((d : ℕ) (cost : ℕ → ℕ) → IsDepth g.at.frame d → IsCost g.at.frame d l.goings cost
    → l.steps + potential_at g.at.height g.at.top d cost (typing_of l.w.nodes l.states) l.list.numbers (length g.at.frame.code) ≤ l.initial.steps + (2 + d * g.at.top) * total cost (length g.at.frame.code))

abbrev pub decreases-loop-k : goal.decreases-loop-k
decreases-loop-k g l = potential g.at.height g.at.top (λ k. 1) (typing_of l.w.nodes l.states) l.list.numbers (length g.at.frame.code)

abbrev pub ghost-follow : goal.ghost-follow
ghost-follow g a = g.at
