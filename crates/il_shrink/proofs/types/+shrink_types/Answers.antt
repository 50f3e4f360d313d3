use Rattle.std.proofs.Common.{arith}
use Rattle.il_shrink.specs.ShrunkAll.{AreShrunkTypes, none}
use Rattle.il_shrink.proofs.Nested.{nested_lower}
use Rattle.il_shrink.proofs.Pairs.{begun, begun_next, type_with, types_next}
use Rattle.il_shrink.proofs.types.+shrink_types.Goals as goal

pub loop-of-init : goal.loop-of-init
loop-of-init t c = begun AreShrunkTypes c.args.types.now c.in_ok-rest.rest c.turned.new.list none c.in_ok-rest.ensures.turned c.in_ok-rest.ensures.empty

pub shrink_types-requires : goal.shrink_types-requires
shrink_types-requires t c =
    let inside = nested_lower c.args.types.now c.loop-of.invariant.front c.loop-of.rest c.pop.new.self c.in-Some.of c.loop-of.invariant.split (rw c.in-Some.is at c.pop.ensures) in
    let down = c.decreases in
    (omega (arith, inside, down), tt)

pub loop-of-preserved : goal.loop-of-preserved
loop-of-preserved t c =
    begun_next AreShrunkTypes c.args.types.now c.loop-of.rest c.pop.new.self c.loop-of.types c.push.new.self c.in-Some.of c.shrink_own.new.t
    (λ ts us h. types_next c.in-Some.of c.shrink_own.new.t c.shrink_types.new.types (type_with c.in-Some.of c.shrink_own.new.t c.shrink_types.new.types c.in_ok-shrink_own.ensures)
    c.in_ok-shrink_types.ensures h)
    c.loop-of.invariant (rw c.in-Some.is at c.pop.ensures) c.in_ok-push.ensures.ok
