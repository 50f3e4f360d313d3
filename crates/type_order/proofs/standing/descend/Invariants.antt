use Rattle.std.proofs.Common.{ℕ, List, length}
use Rattle.sig_pool.specs.declared.node.Node.{Node}
use Rattle.type_hierarchy.specs.Hierarchy.{Hierarchy}
use Rattle.type_order.specs.Found.{IsLadder, IsStanding, Knows}
use Rattle.type_order.proofs.StandingLemmas.{Descends}
use Rattle.type_order.proofs.standing.descend.Given as goal

abbrev pub invariant-loop-id : goal.invariant-loop-id
invariant-loop-id l = (w : Hierarchy) (ns : List Node) (id : ℕ) → Knows w ns l.fn.found → IsLadder w ns id l.fn.ladder.ids l.fn.ladder.top → IsStanding w ns l.fn.ladder.top l.fn.ladder.standing
    → Descends w ns id l.found l.ids l.top l.standing

abbrev pub decreases-loop-id : goal.decreases-loop-id
decreases-loop-id l = length l.ids
