use Rattle.print_bodies.proofs.Rows.{line_done}
use Rattle.print_bodies.proofs.locals.write_line.Goals as goal

pub returns : goal.returns
returns c =
    line_done c.args.externs.now c.args.paper.now _ _ _ _ _ c.args.init c.args.types.now c.in_ok-line.ensures c.in_ok-write_init.ensures c.in_ok-word.ensures
    c.in_ok-write_between.ensures c.in_ok-word-2.ensures
