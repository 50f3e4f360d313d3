use Rattle.std.proofs.Common.{◌≡◌, ◌+◌, ◌++◌}
use Rattle.lower_members.specs.NumberedLines.{no_lines}
use Rattle.lower_members.proofs.numbered_lines.empty_lists.Given as goal

abbrev pub invariant-loop-left : goal.invariant-loop-left
invariant-loop-left l = l.lists.items ++ no_lines l.left ≡ no_lines (1 + l.count)

abbrev pub decreases-loop-left : goal.decreases-loop-left
decreases-loop-left l = l.left
