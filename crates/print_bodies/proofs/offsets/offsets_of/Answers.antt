use Rattle.std.proofs.Common.{◌∷◌, ◌++◌, [], ap, ◌∙◌, drop, ◌+◌}
use Rattle.print_bodies.specs.Offsets.{offsets_from}
use Rattle.print_bodies.proofs.Counting.{offsets_step}
use Rattle.print_bodies.proofs.offsets.offsets_of.Goals as goal

pub loop-ins-preserved : goal.loop-ins-preserved
loop-ins-preserved c =
    ap (λ xs. xs ++ offsets_from c.in_ok-offset.offset (drop (c.loop-ins.ins-index + 1) c.args.code.now)) c.in_ok-push.ensures.ok
    ∙ offsets_step _ c.loop-ins.offsets c.loop-ins.offset _ c.loop-ins.ins-index c.ins-item.result c.args.code.now c.loop-ins-test.true c.ins-item.is
    c.in_ok-offset.ensures c.loop-ins.invariant
