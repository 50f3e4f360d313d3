use Rattle.print_members.proofs.Steps.{field_done}
use Rattle.print_members.proofs.fields.write_field.Goals as goal

pub returns : goal.returns
returns c =
    field_done c.args.externs.now c.args.paper.now _ _ _ _ _ _ _ c.args.number _ c.args.x.now _ c.from.ensures c.as_str.ensures c.in_ok-line.ensures
    c.in_ok-write_offset.ensures c.in_ok-write_field_flags.ensures c.in_ok-write_type.ensures c.in_ok-name.ensures c.in_ok-write_constant_opt.ensures
    c.in_ok-write_data_place.ensures
