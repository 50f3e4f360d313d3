use Rattle.std.proofs.Common.{drop}
use Rattle.image_rows.proofs.FieldLemmas.{FieldsTo}
use Rattle.image_rows.proofs.field_rows.push_fields.Given as goal

abbrev pub invariant-loop-field : goal.invariant-loop-field
invariant-loop-field l = FieldsTo l.refs l.initial.rows l.rows l.place l.fields (drop l.field-index l.fields)
