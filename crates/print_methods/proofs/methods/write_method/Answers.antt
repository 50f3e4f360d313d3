use Rattle.print_methods.proofs.Pieces.{method_done}
use Rattle.print_methods.proofs.methods.write_method.Goals as goal

pub returns : goal.returns
returns c =
    method_done c.args.externs.now c.args.paper.now _ _ _ _ c.args.m.now c.in_ok-write_head.ensures c.in_ok-open_braces.ensures c.in_ok-write_items.ensures
    c.in_ok-close_braces.ensures
