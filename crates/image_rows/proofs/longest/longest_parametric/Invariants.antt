use Rattle.std.proofs.Common.{drop, map}
use Rattle.image_members.specs.GenericRows.{counted}
use Rattle.image_rows.proofs.LongestLemmas.{LongestTo}
use Rattle.image_rows.proofs.longest.longest_parametric.Given as goal

abbrev pub invariant-loop-table : goal.invariant-loop-table
invariant-loop-table l = LongestTo l.longest (map counted l.tables) (map counted (drop l.table-index l.tables))
