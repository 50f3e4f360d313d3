use Rattle.std.proofs.Common.{drop}
use Rattle.image_rows.specs.ClassRows.{nested_rows}
use Rattle.image_rows.proofs.ClassRowLemmas.{Pushed, nested_short}
use Rattle.image_rows.proofs.class_rows.push_nested.Given as goal

abbrev pub invariant-loop-class : goal.invariant-loop-class
invariant-loop-class l = Pushed 0x29 2 nested_rows nested_short l.row l.initial.rows l.rows l.classes (drop l.class-index l.classes)
