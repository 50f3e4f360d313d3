use Rattle.std.proofs.Common.{◌≡◌, ◌+◌, drop, length, map}
use Rattle.listing_model.specs.Classes.{class, classes_from, all_contents}
use Rattle.print_terms.specs.Rows.{in_row}
use Rattle.print_types.proofs.classes.+classes.Given as goal

abbrev pub invariant-write_classes-loop-of : goal.invariant-write_classes-loop-of
invariant-write_classes-loop-of l = record {
  drawn : in_row l.paper (classes_from 0 l.outer l.next (map (class l.externs) (drop l.of-index l.types)))
      ≡ in_row l.initial.paper (classes_from 0 l.initial.outer l.number (map (class l.externs) l.types));
  behind : l.next + length (all_contents (map (class l.externs) (drop l.of-index l.types))) ≡ l.number + length (all_contents (map (class l.externs) l.types));
  outer : l.outer ≡ l.initial.outer;
}
