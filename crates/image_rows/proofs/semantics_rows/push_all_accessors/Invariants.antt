use Rattle.std.proofs.Common.{◌-◌}
use Rattle.std.specs.List.{flat_map, range_with_len}
use Rattle.image_rows.specs.SemanticsRows.{accessors_at}
use Rattle.image_rows.proofs.AccessorLemmas.{Adding}
use Rattle.image_rows.proofs.semantics_rows.push_all_accessors.Given as goal

abbrev pub invariant-loop-place : goal.invariant-loop-place
invariant-loop-place l = Adding l.initial.rows l.rows (flat_map (accessors_at l.tables) (range_with_len 0 l.count)) (flat_map (accessors_at l.tables) (range_with_len l.place (l.count - l.place)))
