use Rattle.std.proofs.Common.{drop, map}
use Rattle.image_members.specs.ConstantRows.{with_constants}
use Rattle.image_rows.proofs.LongestLemmas.{LongestTo}
use Rattle.image_rows.proofs.longest.longest_valued.Given as goal

abbrev pub invariant-loop-table : goal.invariant-loop-table
invariant-loop-table l = LongestTo l.longest (map with_constants l.tables) (map with_constants (drop l.table-index l.tables))
