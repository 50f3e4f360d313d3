use Rattle.print_types.proofs.ClassRows.{members_done}
use Rattle.print_types.proofs.members.write_members.Goals as goal

pub returns : goal.returns
returns c =
    members_done c.args.externs.now c.args.paper.now _ _ _ c.args.of.now c.args.path.now _ _ _ c.as_slice-methods.ensures c.as_slice.ensures c.as_slice-2.ensures
    c.in_ok-write_methods.ensures c.in_ok-write_properties.ensures c.in_ok-write_events.ensures
