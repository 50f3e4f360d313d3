use Rattle.std.proofs.Common.{refl}
use Rattle.type_hierarchy.proofs.GrowLemmas.{put_in_is}
use Rattle.type_order.proofs.interfaces.put_in.Goals as goal

pub returns-in-Some-clause-ok : goal.returns-in-Some-clause-ok
returns-in-Some-clause-ok c =
    let given = rw c.in-Some.is at c.requires.args in
    let below = given c.in-Some.args.now refl in
    rw c.in-Some.is (rw (put_in_is c.args.pool.now c.intern.new.self c.in-Some.args.now c.new.result c.args.t.now c.in_ok-id.id c.intern.ensures.extends below c.in_ok-id.ensures.ok c.new.ensures) c.substitute-in-Some.ensures.ok)
