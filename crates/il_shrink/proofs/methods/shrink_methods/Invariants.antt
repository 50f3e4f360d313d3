use Rattle.std.proofs.Common.{length}
use Rattle.il_shrink.specs.ShrunkAll.{AreShrunkMethods}
use Rattle.il_shrink.proofs.Pairs.{AreBegun}
use Rattle.il_shrink.proofs.methods.shrink_methods.Given as goal

abbrev pub invariant-loop-method : goal.invariant-loop-method
invariant-loop-method l = AreBegun AreShrunkMethods l.fn.methods l.rest l.methods

abbrev pub decreases-loop-method : goal.decreases-loop-method
decreases-loop-method l = length l.rest
