use Rattle.std.proofs.Common.{◌-◌}
use Rattle.std.specs.List.{flat_map, range_with_len}
use Rattle.image_members.specs.ConstantRows.{constants_at}
use Rattle.image_members.proofs.KindLemmas.{Pushing}
use Rattle.image_members.proofs.ConstantLemmas.{constant_kind}
use Rattle.image_members.proofs.constant_rows.push_all_constants.Given as goal

abbrev pub invariant-loop-place : goal.invariant-loop-place
invariant-loop-place l = Pushing constant_kind l.initial.refs l.refs l.initial.rows l.rows (flat_map (constants_at l.tables) (range_with_len 0 l.count)) (flat_map (constants_at l.tables) (range_with_len l.place (l.count - l.place)))
