use Rattle.std.proofs.Common.{◌≡◌, ◌+◌, drop, length}
use Rattle.listing_model.specs.Canon.{data_lines}
use Rattle.listing_model.specs.Members.{field_contents}
use Rattle.print_terms.specs.Rows.{in_row}
use Rattle.print_types.proofs.data.write_field_data.Given as goal

abbrev pub invariant-loop-field : goal.invariant-loop-field
invariant-loop-field l = record {
  drawn : in_row l.paper (data_lines l.next (field_contents (drop l.field-index l.fields))) ≡ in_row l.initial.paper (data_lines l.number (field_contents l.fields));
  behind : l.next + length (field_contents (drop l.field-index l.fields)) ≡ l.number + length (field_contents l.fields);
}
