use Rattle.print_terms.proofs.Owners.{sentinel_done}
use Rattle.print_terms.proofs.references.write_with_sentinel.Goals as goal

pub returns : goal.returns
returns c =
    sentinel_done c.args.externs.now c.args.paper.now _ _ _ c.args.place _ c.args.params.now _ _ c.within.ensures c.split_at.ensures.front c.split_at.ensures.back
    c.in_ok-write_fixed.ensures c.in_ok-word.ensures c.in_ok-write_behind.ensures
