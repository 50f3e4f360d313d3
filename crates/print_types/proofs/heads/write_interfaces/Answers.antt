use Rattle.std.proofs.Common.{sym, ◌∙◌}
use Rattle.print_types.proofs.ClassRows.{implements_done}
use Rattle.print_types.proofs.heads.write_interfaces.Goals as goal

pub returns : goal.returns
returns c =
    implements_done c.args.externs.now c.args.paper.now _ _ c.args.owners.now (sym c.is_empty.ensures ∙ c.if-is_empty.false) c.in_ok-word.ensures
    c.in_ok-write_owners.ensures
