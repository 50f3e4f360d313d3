use Rattle.std.proofs.Common.{◌≡◌, List, [], take}
use Rattle.std.specs.Prelude.{fold}
use Rattle.source_model.specs.Items.{Run}
use Rattle.source_model.specs.Nodes.{Around}
use Rattle.source_model.specs.Source.{Source}
use Rattle.source_syntax.specs.Places.{IsAt}
use Rattle.lower_members.specs.NumberedLines.{AreRuns}
use Rattle.lower_members.proofs.ParamRows.{with_customs}
use Rattle.lower_members.proofs.params.line_customs.Given as goal

abbrev pub invariant-loop-line : goal.invariant-loop-line
invariant-loop-line l = (s : Source) (a : Around) → IsAt l.place s a → (rs : List Run) → AreRuns s l.nodes l.own rs → l.all ≡ fold (with_customs s a) [] (take l.line-index rs)
