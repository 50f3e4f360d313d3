use Rattle.std.proofs.Common.{sym, ◌∙◌}
use Rattle.listing_printer.proofs.Parts.{declarations_done}
use Rattle.listing_printer.proofs.whole.write_declarations.Goals as goal

pub write_externs-requires : goal.write_externs-requires
write_externs-requires c = c.in_ok-externs.ensures ∙ (c.as_slice.ensures ∙ sym c.as_slice-2.ensures)

pub returns : goal.returns
returns c =
    declarations_done c.args.a.now c.args.paper.now _ _ _ _ _ _ _ c.in_ok-externs.externs _ _ _ _ _ _ _ _ _ c.new-outer.ensures
    (c.in_ok-externs.ensures ∙ c.as_slice.ensures) c.as_slice-2.ensures c.as_slice-3.ensures c.as_slice-6.ensures c.as_slice-4.ensures c.as_slice-7.ensures
    c.as_slice-5.ensures c.in_ok-write_externs.ensures c.in_ok-write_manifest.ensures c.in_ok-next.ensures.drawn c.in_ok-next.ensures.behind
    c.in_ok-write_fields.ensures.drawn c.in_ok-write_methods.ensures (c.in_ok-next-2.ensures.drawn c.in_ok-externs.externs) (c.in_ok-next-2.ensures.behind c.in_ok-externs.externs)
    c.in_ok-write_field_data.ensures.drawn
