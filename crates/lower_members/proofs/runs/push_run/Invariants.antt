use Rattle.std.proofs.Common.{◌≡◌, ◌++◌, List, ℕ}
use Rattle.source_model.specs.Data.{first_bytes, repeated}
use Rattle.lower_members.proofs.runs.push_run.Given as goal

abbrev pub invariant-loop-left : goal.invariant-loop-left
invariant-loop-left l = (rest : List ℕ) → first_bytes l.size (l.bytes ++ (repeated l.left l.run.once ++ rest)) ≡ first_bytes l.size (l.fn.bytes ++ (repeated l.run.count l.run.once ++ rest))

abbrev pub decreases-loop-left : goal.decreases-loop-left
decreases-loop-left l = l.left
