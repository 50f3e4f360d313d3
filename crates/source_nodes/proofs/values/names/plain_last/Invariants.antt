use Rattle.std.proofs.Common.{◌≡◌, ◌-◌, drop, length}
use Rattle.source_nodes.specs.NameTexts.{plain_last}
use Rattle.source_nodes.proofs.values.names.plain_last.Given as goal

abbrev pub invariant-loop-at : goal.invariant-loop-at
invariant-loop-at l = plain_last l.at l.last (drop l.at l.spelling) ≡ plain_last 0 0 l.spelling

abbrev pub decreases-loop-at : goal.decreases-loop-at
decreases-loop-at l = length l.spelling - l.at
