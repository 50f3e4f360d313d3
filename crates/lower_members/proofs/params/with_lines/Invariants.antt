use Rattle.std.proofs.Common.{◌≡◌, List, take}
use Rattle.std.specs.Prelude.{fold}
use Rattle.source_model.specs.Items.{Run}
use Rattle.source_model.specs.Parameters.{with_line_flags}
use Rattle.source_model.specs.Source.{Source}
use Rattle.source_nodes.specs.Readers.{Reads}
use Rattle.lower_members.specs.NumberedLines.{AreRuns}
use Rattle.lower_members.proofs.params.with_lines.Given as goal

abbrev pub invariant-loop-line : goal.invariant-loop-line
invariant-loop-line l = (s : Source) (rs : List Run) → Reads l.reader s → AreRuns s l.nodes l.own rs → l.flags ≡ fold (with_line_flags s) l.declared (take l.line-index rs)
