use Rattle.std.proofs.Common.{◌+◌, length, ap, ◌∙◌}
use Rattle.listing_model.specs.Members.{field_contents}
use Rattle.print_types.proofs.ClassRows.{front_done}
use Rattle.print_types.proofs.members.write_front.Goals as goal

pub returns : goal.returns
returns c = record {
  drawn =
      front_done c.args.externs.now c.args.paper.now _ _ _ _ c.args.of.now c.args.number _ _ _ c.as_slice.ensures c.as_slice-2.ensures c.as_slice-3.ensures
      c.in_ok-write_layout.ensures c.in_ok-write_attributes.ensures c.in_ok-write_typar_lines.ensures c.in_ok-next.ensures.drawn;
  behind = c.in_ok-next.ensures.behind ∙ ap (λ xs. c.args.number + length (field_contents xs)) c.as_slice-3.ensures;
}
