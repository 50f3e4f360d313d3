use Rattle.std.proofs.Common.{drop}
use Rattle.image_rows.specs.ClassRows.{layout_rows}
use Rattle.image_rows.proofs.ClassRowLemmas.{Pushed, layout_short}
use Rattle.image_rows.proofs.class_rows.push_layouts.Given as goal

abbrev pub invariant-loop-class : goal.invariant-loop-class
invariant-loop-class l = Pushed 0x0F 2 layout_rows layout_short l.row l.initial.rows l.rows l.classes (drop l.class-index l.classes)
