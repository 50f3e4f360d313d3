use Rattle.std.proofs.Common.{◌≡◌, ◌+◌, drop, length}
use Rattle.listing_model.specs.Members.{field_contents}
use Rattle.print_members.specs.Rows.{fields_drawn}
use Rattle.print_members.proofs.fields.write_fields.Given as goal

abbrev pub invariant-loop-field : goal.invariant-loop-field
invariant-loop-field l = record {
  drawn : fields_drawn l.externs l.paper l.next (drop l.field-index l.fields) ≡ fields_drawn l.externs l.initial.paper l.number l.fields;
  behind : l.next + length (field_contents (drop l.field-index l.fields)) ≡ l.number + length (field_contents l.fields);
}
