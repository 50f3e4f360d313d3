use Rattle.std.proofs.Common.{◌≡◌, ◌-◌, drop}
use Rattle.image_weights.specs.RowWeights.{text_length}
use Rattle.image_weights.proofs.heap_lengths.text_off.Given as goal

abbrev pub invariant-loop-left : goal.invariant-loop-left
invariant-loop-left l = l.left - text_length (drop l.at l.heap) ≡ l.initial.left - text_length (drop l.initial.at l.heap)

abbrev pub decreases-loop-left : goal.decreases-loop-left
decreases-loop-left l = l.left
