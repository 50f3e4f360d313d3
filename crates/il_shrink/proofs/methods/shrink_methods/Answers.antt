use Rattle.il_shrink.specs.ShrunkAll.{AreShrunkMethods}
use Rattle.il_shrink.proofs.Pairs.{begun_next, methods_end}
use Rattle.il_shrink.proofs.methods.shrink_methods.Goals as goal

pub loop-method-preserved : goal.loop-method-preserved
loop-method-preserved c =
    begun_next AreShrunkMethods c.args.methods.now c.loop-method.rest c.pop.new.self c.loop-method.methods c.push.new.self c.in-Some.method c.shrink_method.new.m
    (λ ms ns h. methods_end ms ns c.in-Some.method c.shrink_method.new.m c.in_ok-shrink_method.ensures h) c.loop-method.invariant (rw c.in-Some.is at c.pop.ensures)
    c.in_ok-push.ensures.ok
