use Rattle.std.proofs.Common.{drop, map}
use Rattle.image_members.specs.GenericRows.{generic_of, generics_at}
use Rattle.image_members.specs.Places.{lent}
use Rattle.image_members.proofs.PlaceLemmas.{FilledTo}
use Rattle.image_rows.proofs.generic_order.add_generics_at.Given as goal

abbrev pub invariant-loop-table : goal.invariant-loop-table
invariant-loop-table l = FilledTo (lent l.initial.all) (lent l.all) (map generic_of (generics_at l.tables l.place)) (map generic_of (generics_at (drop l.table-index l.tables) l.place))
