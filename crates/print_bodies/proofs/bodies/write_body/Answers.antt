use Rattle.print_bodies.proofs.Rows.{body_done}
use Rattle.print_bodies.proofs.bodies.write_body.Goals as goal

pub returns : goal.returns
returns c =
    body_done c.args.externs.now c.args.paper.now _ _ _ _ c.args.x.now _ _ _ _ c.from.ensures c.as_slice.ensures c.as_slice-2.ensures c.as_slice-3.ensures c.in_ok-line.ensures
    c.in_ok-natural.ensures c.in_ok-write_locals.ensures c.in_ok-write_code.ensures
