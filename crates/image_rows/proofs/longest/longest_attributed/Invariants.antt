use Rattle.std.proofs.Common.{drop}
use Rattle.image_rows.specs.AttributeRows.{tables_of}
use Rattle.image_rows.proofs.LongestLemmas.{LongestTo}
use Rattle.image_rows.proofs.longest.longest_attributed.Given as goal

abbrev pub invariant-loop-table : goal.invariant-loop-table
invariant-loop-table l = LongestTo l.longest (tables_of l.tables) (tables_of (drop l.table-index l.tables))
