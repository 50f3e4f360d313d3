use Rattle.std.proofs.Common.{◌-◌}
use Rattle.std.specs.List.{flat_map, range_with_len}
use Rattle.image_members.specs.GenericRows.{generics_at}
use Rattle.image_members.proofs.KindLemmas.{Pushing}
use Rattle.image_members.proofs.GenericLemmas.{generic_kind}
use Rattle.image_members.proofs.generic_rows.push_all_generics.Given as goal

abbrev pub invariant-loop-place : goal.invariant-loop-place
invariant-loop-place l = Pushing generic_kind l.initial.refs l.refs l.initial.rows l.rows (flat_map (generics_at l.tables) (range_with_len 0 l.count)) (flat_map (generics_at l.tables) (range_with_len l.place (l.count - l.place)))
