use Rattle.print_members.proofs.Steps.{fields_step, count_step}
use Rattle.print_members.proofs.fields.write_fields.Goals as goal

pub loop-field-preserved : goal.loop-field-preserved
loop-field-preserved c = record {
  drawn =
      fields_step c.args.externs.now c.loop-field.paper _ _ _ c.loop-field.next _ c.args.number c.loop-field.field-index c.field-item.result c.args.fields.now _
      c.loop-field-test.true c.field-item.is c.as_slice.ensures c.in_ok-write_field.ensures c.in_ok-write_attributes.ensures c.in_ok-next.ensures
      c.loop-field.invariant.drawn;
  behind =
      count_step c.loop-field.next _ c.args.number c.loop-field.field-index c.field-item.result c.args.fields.now c.loop-field-test.true c.field-item.is
      c.in_ok-next.ensures c.loop-field.invariant.behind;
}
