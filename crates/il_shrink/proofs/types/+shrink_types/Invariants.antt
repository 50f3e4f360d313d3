use Rattle.std.proofs.Common.{length}
use Rattle.std.specs.List.{sum_by}
use Rattle.assembly_tree.specs.Nesting.{types_in}
use Rattle.il_shrink.specs.ShrunkAll.{AreShrunkTypes}
use Rattle.il_shrink.proofs.Pairs.{AreBegun}
use Rattle.il_shrink.proofs.types.+shrink_types.Given as goal

abbrev pub invariant-loop-of : goal.invariant-loop-of
invariant-loop-of l = AreBegun AreShrunkTypes l.fn.types l.rest l.types

abbrev pub decreases-loop-of : goal.decreases-loop-of
decreases-loop-of l = length l.rest

abbrev pub decreases-shrink_types : goal.decreases-shrink_types
decreases-shrink_types l = sum_by types_in l.types.now
