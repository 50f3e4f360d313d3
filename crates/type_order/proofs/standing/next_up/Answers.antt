use Rattle.type_hierarchy.specs.Tables.{hierarchy_in}
use Rattle.type_order.proofs.StandingLemmas.{between_parent, not_top}
use Rattle.type_order.proofs.standing.next_up.Goals as goal

pub returns-in-Some-clause-ok : goal.returns-in-Some-clause-ok
returns-in-Some-clause-ok c =
    between_parent (hierarchy_in c.args.tables.now) c.args.pool.now c.found_parent.new.pool c.args.id c.in-Some.parent c.args.standing.now c.args.depth c.requires.standing c.found_parent.ensures.extends
    (rw c.in-Some.is at c.in_ok-parent.ensures.ok) c.requires.low

pub returns-in-None-clause-ok : goal.returns-in-None-clause-ok
returns-in-None-clause-ok c =
    absurd (not_top (hierarchy_in c.args.tables.now) c.args.pool.now c.args.id c.args.standing.now c.args.depth c.requires.standing (rw c.in-None.is at c.in_ok-parent.ensures.ok) c.requires.some c.requires.low)
