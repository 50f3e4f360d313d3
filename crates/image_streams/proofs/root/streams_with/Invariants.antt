use Rattle.image_streams.proofs.Counting.{AreCounted}
use Rattle.image_streams.proofs.root.streams_with.Given as goal

abbrev pub invariant-loop-left : goal.invariant-loop-left
invariant-loop-left l = AreCounted l.metadata l.name l.place l.left l.count l.first

abbrev pub decreases-loop-left : goal.decreases-loop-left
decreases-loop-left l = l.left
