use Rattle.std.proofs.Common.{◌≡◌, ◌-◌, suc, length}
use Rattle.print_methods.proofs.Tables.{LeadsFrom}
use Rattle.print_methods.proofs.rows.places_by_number.Given as goal

abbrev pub invariant-loop-done : goal.invariant-loop-done
invariant-loop-done l = record {
  counted : length l.places ≡ suc l.count;
  leads : LeadsFrom l.rows (length l.rows - l.done) l.places;
}
