use Rattle.std.proofs.Common.{◌-◌, length}
use Rattle.type_tables.proofs.ReachLemmas.{Walk}
use Rattle.type_tables.proofs.reach.reached.Given as goal

abbrev pub invariant-loop-done : goal.invariant-loop-done
invariant-loop-done l = Walk l.steps l.start l.seen.keys l.done

abbrev pub decreases-loop-done : goal.decreases-loop-done
decreases-loop-done l = length l.steps - l.done
