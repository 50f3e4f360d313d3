use Rattle.print_members.proofs.Steps.{count_step}
use Rattle.print_types.proofs.DataRows.{field_step}
use Rattle.print_types.proofs.data.write_field_data.Goals as goal

pub loop-field-preserved : goal.loop-field-preserved
loop-field-preserved c = record {
  drawn =
      field_step c.loop-field.paper _ _ c.loop-field.next _ c.loop-field.field-index c.field-item.result c.args.fields.now c.loop-field-test.true c.field-item.is
      c.in_ok-write_content.ensures c.in_ok-next.ensures c.loop-field.invariant.drawn;
  behind =
      count_step c.loop-field.next _ c.args.number c.loop-field.field-index c.field-item.result c.args.fields.now c.loop-field-test.true c.field-item.is
      c.in_ok-next.ensures c.loop-field.invariant.behind;
}
