use Rattle.std.proofs.Common.{sym, ◌∙◌}
use Rattle.print_members.proofs.Steps.{typars_done}
use Rattle.print_members.proofs.generics.write_typars.Goals as goal

pub returns : goal.returns
returns c =
    typars_done c.args.externs.now c.args.paper.now _ _ _ c.args.generics.now (sym c.is_empty.ensures ∙ c.if-is_empty.false) c.in_ok-word.ensures
    c.in_ok-write_between.ensures c.in_ok-word-2.ensures
