use Rattle.print_types.proofs.DataRows.{class_step_done, count_step_done}
use Rattle.print_types.proofs.data.+write_class_data.Goals as goal

pub loop-of-preserved : goal.loop-of-preserved
loop-of-preserved t c = record {
  drawn = λ externs.
      class_step_done externs c.loop-of.paper _ _ _ c.loop-of.next _ _ c.loop-of.of-index c.of-item.result c.args.types.now _ _ c.loop-of-test.true c.of-item.is
      c.as_slice.ensures c.as_slice-in-loop-of.ensures c.in_ok-next.ensures.drawn c.in_ok-next.ensures.behind
      (c.in_ok-next-2.ensures.drawn externs) (c.in_ok-next-2.ensures.behind externs) (c.loop-of.invariant.drawn externs);
  behind = λ externs.
      count_step_done externs c.loop-of.next _ _ _ c.loop-of.of-index c.of-item.result c.args.types.now _ _ c.loop-of-test.true c.of-item.is
      c.as_slice.ensures c.as_slice-in-loop-of.ensures c.in_ok-next.ensures.behind (c.in_ok-next-2.ensures.behind externs)
      (c.loop-of.invariant.behind externs);
}
