use Rattle.std.proofs.Common.{◌+◌, ◌≤◌}
use Rattle.type_hierarchy.specs.World.{hierarchy, Stays}
use Rattle.stack_states.proofs.StackLemmas.{AreJoined}
use Rattle.stack_states.proofs.state.joins.Given as goal

abbrev pub invariant-loop-k : goal.invariant-loop-k
invariant-loop-k l =
    Stays l.initial.w l.w × AreJoined (hierarchy l.initial.w) l.initial.w.nodes l.s l.t l.w.nodes l.joins l.k × (l.steps ≤ l.initial.steps + l.k)
