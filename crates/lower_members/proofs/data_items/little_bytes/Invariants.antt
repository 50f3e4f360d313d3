use Rattle.std.proofs.Common.{◌≡◌, ◌++◌}
use Rattle.source_model.specs.Data.{little_bytes}
use Rattle.lower_members.proofs.data_items.little_bytes.Given as goal

abbrev pub invariant-loop-left : goal.invariant-loop-left
invariant-loop-left l = l.bytes ++ little_bytes l.left l.rest ≡ little_bytes l.count l.value

abbrev pub decreases-loop-left : goal.decreases-loop-left
decreases-loop-left l = l.left
