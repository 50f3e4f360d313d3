use Rattle.std.proofs.Common.{drop, map}
use Rattle.image_rows.specs.SemanticsRows.{with_methods}
use Rattle.image_rows.proofs.LongestLemmas.{LongestTo}
use Rattle.image_rows.proofs.longest.longest_accessing.Given as goal

abbrev pub invariant-loop-table : goal.invariant-loop-table
invariant-loop-table l = LongestTo l.longest (map with_methods l.tables) (map with_methods (drop l.table-index l.tables))
