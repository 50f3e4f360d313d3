use Rattle.std.proofs.Common.{◌≡◌, ◌+◌, List, drop, length, map}
use Rattle.assembly_tree.specs.declared.assembly.ExternAssembly.{ExternAssembly}
use Rattle.listing_model.specs.Canon.{data_lines}
use Rattle.listing_model.specs.Classes.{class, all_contents}
use Rattle.print_terms.specs.Rows.{in_row}
use Rattle.print_types.proofs.data.+write_class_data.Given as goal

abbrev pub invariant-loop-of : goal.invariant-loop-of
invariant-loop-of l = record {
  drawn : (externs : List ExternAssembly) → in_row l.paper (data_lines l.next (all_contents (map (class externs) (drop l.of-index l.types))))
      ≡ in_row l.initial.paper (data_lines l.number (all_contents (map (class externs) l.types)));
  behind : (externs : List ExternAssembly) → l.next + length (all_contents (map (class externs) (drop l.of-index l.types)))
      ≡ l.number + length (all_contents (map (class externs) l.types));
}
