use Rattle.std.proofs.Common.{◌-◌, map}
use Rattle.std.specs.List.{flat_map, range_with_len}
use Rattle.image_members.specs.GenericRows.{generic_of, generics_at}
use Rattle.image_members.specs.Places.{lent}
use Rattle.image_members.proofs.PlaceLemmas.{FilledTo}
use Rattle.image_rows.proofs.generic_order.generics_in_order.Given as goal

abbrev pub invariant-loop-place : goal.invariant-loop-place
invariant-loop-place l =
    FilledTo (lent l.initial.generics) (lent l.generics) (map generic_of (flat_map (generics_at l.tables) (range_with_len 0 l.count))) (map generic_of (flat_map (generics_at l.tables) (range_with_len l.place (l.count - l.place))))
