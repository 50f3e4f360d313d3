use Rattle.std.proofs.Common.{List, drop}
use Rattle.image_rows.specs.AttributeRows.{attributes_in, attributes_at}
use Rattle.image_rows.specs.declared.attribute_rows.Attributed.{Attributed}
use Rattle.image_members.proofs.KindLemmas.{Pushing}
use Rattle.image_rows.proofs.AttributeLemmas.{attribute_kind}
use Rattle.image_rows.proofs.attribute_rows.push_attributes_at.Given as goal

abbrev pub invariant-loop-table : goal.invariant-loop-table
invariant-loop-table l = Pushing attribute_kind l.initial.refs l.refs l.initial.rows l.rows ((λ (ts : List Attributed). attributes_at ts l.place) l.tables) ((λ (ts : List Attributed). attributes_at ts l.place) (drop l.table-index l.tables))
