use Rattle.std.proofs.Common.{◌≡◌, length}
use Rattle.source_model.specs.Names.{is_path}
use Rattle.check_members.proofs.reference_reading.is_path.Given as goal

abbrev pub invariant-loop-rest : goal.invariant-loop-rest
invariant-loop-rest l = is_path l.path l.other ≡ is_path l.rest l.other_rest

abbrev pub decreases-loop-rest : goal.decreases-loop-rest
decreases-loop-rest l = length l.rest
