use Rattle.std.proofs.Common.{refl}
use Rattle.type_hierarchy.specs.Tables.{hierarchy_in}
use Rattle.type_hierarchy.proofs.GrowLemmas.{extends_trans}
use Rattle.type_order.proofs.FoundLemmas.{standing_more}
use Rattle.type_order.proofs.StandingLemmas.{sides_jump, sides_more}
use Rattle.type_order.proofs.WalkLemmas.{false_apart}
use Rattle.type_order.proofs.common.higher.Goals as goal

pub returns-then-not-same-clause-ok : goal.returns-then-not-same-clause-ok
returns-then-not-same-clause-ok c = λ s t h.
    let w = hierarchy_in c.args.tables.now in
    let x = extends_trans c.args.pool.now c.standing_of.new.pool c.standing_of-2.new.pool c.in_ok-from.ensures.extends c.in_ok-to.ensures.extends in
    let from = standing_more w c.standing_of.new.pool c.standing_of-2.new.pool c.args.sides.now.left c.in_ok-from.from c.in_ok-to.ensures.extends c.in_ok-from.ensures.ok in
    sides_jump w c.args.pool.now c.standing_of-2.new.pool s t c.args.sides.now _ c.in_ok-from.from c.in_ok-to.to h x from c.in_ok-to.ensures.ok c.if-from-to.true c.if-from-sides.true
    (false_apart c.same.ensures.types c.if-not-same.true) refl

pub returns-clause-ok : goal.returns-clause-ok
returns-clause-ok c = λ s t h.
    let x = extends_trans c.args.pool.now c.standing_of.new.pool c.standing_of-2.new.pool c.in_ok-from.ensures.extends c.in_ok-to.ensures.extends in
    c.parents_of.ensures.ok s t (sides_more (hierarchy_in c.args.tables.now) c.args.pool.now c.standing_of-2.new.pool s t c.args.sides.now x h)
