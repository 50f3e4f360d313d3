use Rattle.std.proofs.Common.{drop}
use Rattle.image_members.proofs.DataLemmas.{DataTo}
use Rattle.image_members.proofs.data_rows.push_all_data.Given as goal

abbrev pub invariant-loop-field : goal.invariant-loop-field
invariant-loop-field l = DataTo l.row l.initial.code l.code l.initial.rows l.rows l.fields (drop l.field-index l.fields)
