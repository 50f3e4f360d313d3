use Rattle.print_terms.proofs.Lists.{cons_is}
use Rattle.print_bodies.proofs.Rows.{targets_done}
use Rattle.print_bodies.proofs.operands.write_targets.Goals as goal

pub returns-in_ok-write_other_targets-in-len1-up : goal.returns-in_ok-write_other_targets-in-len1-up
returns-in_ok-write_other_targets-in-len1-up c =
    targets_done c.args.code.now c.args.paper.now _ _ _ _ c.args.places.now (cons_is c.args.places.now 0 c.in-len1-up.len_at_least)
    c.in_ok-write_label-in-len1-up.ensures c.in_ok-write_other_targets-in-len1-up.ensures
