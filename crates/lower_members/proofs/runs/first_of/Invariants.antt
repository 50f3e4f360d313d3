use Rattle.std.proofs.Common.{◌≡◌, ◌++◌, length}
use Rattle.source_model.specs.Data.{first_bytes}
use Rattle.lower_members.specs.Runs.{bytes_of_runs}
use Rattle.lower_members.proofs.runs.first_of.Given as goal

abbrev pub invariant-loop-rest : goal.invariant-loop-rest
invariant-loop-rest l = first_bytes l.size (l.bytes ++ bytes_of_runs l.rest) ≡ first_bytes l.size (bytes_of_runs l.runs)

abbrev pub decreases-loop-rest : goal.decreases-loop-rest
decreases-loop-rest l = length l.rest
