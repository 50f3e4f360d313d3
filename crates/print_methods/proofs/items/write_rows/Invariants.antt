use Rattle.std.proofs.Common.{◌≡◌, take, fold}
use Rattle.print_methods.specs.Pieces.{row_step}
use Rattle.print_methods.proofs.items.write_rows.Given as goal

abbrev pub invariant-loop-row : goal.invariant-loop-row
invariant-loop-row l = l.paper ≡ fold (row_step l.externs) l.initial.paper (take l.row-index l.rows)
