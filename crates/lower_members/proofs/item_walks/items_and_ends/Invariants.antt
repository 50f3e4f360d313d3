use Rattle.std.proofs.Common.{◌+◌, ◌*◌, ◌-◌, length}
use Rattle.lower_members.proofs.ItemWalks.{Walked}
use Rattle.lower_members.proofs.item_walks.items_and_ends.Given as goal

abbrev pub invariant-loop-step : goal.invariant-loop-step
invariant-loop-step l = Walked l.nodes l.at l.found l.blocks

abbrev pub decreases-loop-step : goal.decreases-loop-step
decreases-loop-step l = 2 * (length l.nodes - l.at) + length l.blocks
