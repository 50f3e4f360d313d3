use Rattle.print_members.proofs.Rows.{event_done}
use Rattle.print_members.proofs.properties.write_event.Goals as goal

pub returns : goal.returns
returns c =
    event_done c.args.externs.now c.args.path.now c.args.methods.now c.args.paper.now _ _ c.args.x.now _ _ c.as_slice-accessors.ensures c.as_slice-attributes.ensures
    c.in_ok-write_event_head.ensures c.in_ok-write_inner.ensures
