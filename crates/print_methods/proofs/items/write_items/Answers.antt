use Rattle.print_methods.proofs.Pieces.{items_done}
use Rattle.print_methods.proofs.items.write_items.Goals as goal

pub returns : goal.returns
returns c =
    items_done c.args.externs.now c.args.paper.now _ _ _ _ _ _ c.args.m.now _ _ _ _ c.as_slice.ensures c.as_slice-2.ensures c.as_slice-3.ensures
    c.as_slice-4.ensures c.in_ok-write_attributes.ensures c.in_ok-write_typar_lines.ensures c.in_ok-write_rows.ensures c.in_ok-write_overrides.ensures
    c.in_ok-write_entrypoint.ensures c.in_ok-write_body_opt.ensures
