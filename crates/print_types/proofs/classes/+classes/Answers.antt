use Rattle.std.proofs.Common.{◌∙◌}
use Rattle.print_types.proofs.ClassRows.{class_done, behind_done, classes_step, contents_step, left}
use Rattle.print_types.proofs.classes.+classes.Goals as goal

pub write_classes-loop-of-preserved : goal.write_classes-loop-of-preserved
write_classes-loop-of-preserved t c = record {
  drawn =
      classes_step c.args.externs.now c.loop-of.paper _ _ c.loop-of.outer _ c.loop-of.next _ c.loop-of.of-index c.of-item.result c.args.types.now c.loop-of-test.true
      c.of-item.is c.in_ok-next.ensures.drawn c.in_ok-next.ensures.behind c.in_ok-next.ensures.outer c.loop-of.invariant.drawn;
  behind =
      contents_step c.args.externs.now c.loop-of.next _ _ c.loop-of.of-index c.of-item.result c.args.types.now c.loop-of-test.true c.of-item.is
      c.in_ok-next.ensures.behind c.loop-of.invariant.behind;
  outer = c.in_ok-next.ensures.outer ∙ c.loop-of.invariant.outer;
}

pub write_class-returns : goal.write_class-returns
write_class-returns t c = record {
  drawn =
      class_done c.args.externs.now c.args.paper.now _ _ _ _ _ _ c.args.of.now c.args.outer.now _ _ c.args.number _ _ c.in_ok-enter.ensures c.as_slice.ensures
      c.as_slice-2.ensures c.in_ok-write_head.ensures c.in_ok-open_braces.ensures c.in_ok-behind.ensures.drawn c.in_ok-behind.ensures.behind
      c.in_ok-write_members.ensures c.in_ok-next.ensures.drawn c.in_ok-close_braces.ensures;
  behind = behind_done c.args.externs.now c.args.of.now c.args.number _ _ _ c.as_slice-2.ensures c.in_ok-behind.ensures.behind c.in_ok-next.ensures.behind;
  outer = left c.args.outer.now _ _ _ _ c.in_ok-enter.ensures c.in_ok-next.ensures.outer c.leave.ensures;
}
