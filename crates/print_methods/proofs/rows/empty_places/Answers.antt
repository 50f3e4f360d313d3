use Rattle.print_methods.proofs.Tables.{none_pushed, pushed_count}
use Rattle.print_methods.proofs.rows.empty_places.Goals as goal

pub loop-number-preserved : goal.loop-number-preserved
loop-number-preserved c = record {
  counted = pushed_count c.loop-number.places _ c.loop-number.number c.in_ok-push.ensures.ok c.loop-number.invariant.counted;
  empty = none_pushed c.loop-number.places _ c.in_ok-push.ensures.ok c.loop-number.invariant.empty;
}
