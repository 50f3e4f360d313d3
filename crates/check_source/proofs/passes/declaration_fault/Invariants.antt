use Rattle.std.proofs.Common.{length}
use Rattle.check_source.proofs.Sweeps.{Swept}
use Rattle.check_source.proofs.passes.declaration_fault.Given as goal

abbrev pub invariant-loop-node : goal.invariant-loop-node
invariant-loop-node l = Swept l.reader l.declared l.left l.found

abbrev pub decreases-loop-node : goal.decreases-loop-node
decreases-loop-node l = length l.left
