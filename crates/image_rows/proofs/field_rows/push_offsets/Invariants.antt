use Rattle.std.proofs.Common.{drop}
use Rattle.image_rows.proofs.ClassRowLemmas.{Pushed, lent_offset_rows, offset_short}
use Rattle.image_rows.proofs.field_rows.push_offsets.Given as goal

abbrev pub invariant-loop-field : goal.invariant-loop-field
invariant-loop-field l = Pushed 0x10 1 lent_offset_rows offset_short l.row l.initial.rows l.rows l.fields (drop l.field-index l.fields)
