use Rattle.print_bodies.proofs.Rows.{locals_step}
use Rattle.print_bodies.proofs.locals.write_between.Goals as goal

pub loop-place-preserved : goal.loop-place-preserved
loop-place-preserved c =
    locals_step c.args.externs.now c.loop-place.paper _ _ _ c.loop-place.place c.index-more-place.result _ c.loop-place-test.true
    c.index-more-place.is c.in_ok-word.ensures c.in_ok-write_local-2.ensures c.loop-place.invariant
