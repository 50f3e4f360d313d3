use Rattle.std.proofs.Common.{◌≡◌, length}
use Rattle.print_methods.specs.Tables.{AreEmpty}
use Rattle.print_methods.proofs.rows.empty_places.Given as goal

abbrev pub invariant-loop-number : goal.invariant-loop-number
invariant-loop-number l = record {
  counted : length l.places ≡ l.number;
  empty : AreEmpty l.places;
}
