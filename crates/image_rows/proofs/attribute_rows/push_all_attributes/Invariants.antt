use Rattle.std.proofs.Common.{◌-◌}
use Rattle.std.specs.List.{flat_map, range_with_len}
use Rattle.image_rows.specs.AttributeRows.{attributes_at}
use Rattle.image_members.proofs.KindLemmas.{Pushing}
use Rattle.image_rows.proofs.AttributeLemmas.{attribute_kind}
use Rattle.image_rows.proofs.attribute_rows.push_all_attributes.Given as goal

abbrev pub invariant-loop-place : goal.invariant-loop-place
invariant-loop-place l = Pushing attribute_kind l.initial.refs l.refs l.initial.rows l.rows (flat_map (attributes_at l.tables) (range_with_len 0 l.count)) (flat_map (attributes_at l.tables) (range_with_len l.place (l.count - l.place)))
