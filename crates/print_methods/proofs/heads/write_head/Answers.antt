use Rattle.print_methods.proofs.Pieces.{head_done}
use Rattle.print_methods.proofs.heads.write_head.Goals as goal

pub returns : goal.returns
returns c =
    head_done c.args.externs.now c.args.paper.now _ _ _ _ _ _ _ _ _ _ c.args.m.now _ _ _ _ _ _ c.from.ensures c.from-2.ensures c.as_str.ensures
    c.as_slice.ensures c.as_slice-rows.ensures c.as_slice-2.ensures c.in_ok-line.ensures c.in_ok-write_method_flags.ensures c.in_ok-write_convention.ensures
    c.in_ok-write_type.ensures c.in_ok-write_method_name.ensures c.in_ok-write_typars.ensures c.in_ok-word.ensures c.in_ok-write_parameters.ensures
    c.in_ok-word-2.ensures c.in_ok-write_implementation_flags.ensures
