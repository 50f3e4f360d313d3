use Rattle.type_hierarchy.specs.Tables.{hierarchy_in}
use Rattle.type_tables.proofs.StepLists.{places_none, places_next}
use Rattle.type_tables.proofs.stepping.add_steps.Goals as goal

pub loop-to-init : goal.loop-to-init
loop-to-init c = places_none (hierarchy_in c.args.tables.now) c.args.tables.now.names c.args.nexts.now

pub loop-to-preserved : goal.loop-to-preserved
loop-to-preserved c =
    places_next (hierarchy_in c.args.tables.now) c.args.tables.now.names c.args.types.now c.loop-to.to-index c.to-item.result c.args.nexts.now c.loop-to.nexts c.add_step.new.nexts
    c.loop-to.invariant c.in_ok-add_step.ensures c.loop-to-test.true c.to-item.is
