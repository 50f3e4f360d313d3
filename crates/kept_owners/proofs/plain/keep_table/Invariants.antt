use Rattle.kept_owners.specs.Kept.{AreThere, Goes}
use Rattle.kept_owners.proofs.plain.keep_table.Given as goal

abbrev pub invariant-loop-row : goal.invariant-loop-row
invariant-loop-row l = Goes l.image l.fn.kept l.kept × AreThere l.kept l.table l.row
