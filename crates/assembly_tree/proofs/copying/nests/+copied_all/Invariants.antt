use Rattle.std.proofs.Common.{◌≡◌, take}
use Rattle.std.specs.List.{sum_by}
use Rattle.assembly_tree.proofs.copying.nests.+copied_all.Given as goal

abbrev pub invariant-loop-of : goal.invariant-loop-of
invariant-loop-of g l = l.copies ≡ take l.of-index l.all

abbrev pub decreases-copied_all : goal.decreases-copied_all
decreases-copied_all g l = sum_by g.T.Nests.count l.all.now
