use Rattle.std.proofs.Common.{◌≡◌, ◌++◌}
use Rattle.lower_members.specs.GivenAttributes.{none_given}
use Rattle.lower_members.proofs.line_attributes.empty_lists.Given as goal

abbrev pub invariant-loop-left : goal.invariant-loop-left
invariant-loop-left l = l.lists.items ++ none_given l.left ≡ none_given l.count

abbrev pub decreases-loop-left : goal.decreases-loop-left
decreases-loop-left l = l.left
