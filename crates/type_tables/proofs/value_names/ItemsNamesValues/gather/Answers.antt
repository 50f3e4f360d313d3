use Rattle.type_tables.proofs.Gathering.{step_in}
use Rattle.type_tables.proofs.value_names.ItemsNamesValues.gather.Goals as goal

pub loop-item-preserved : goal.loop-item-preserved
loop-item-preserved g c =
    step_in g.T.NamesValues.value_names c.args.means.now c.args.into.now c.loop-item.into c.gather.new.into c.as_slice-item-items.result.now c.loop-item.item-index c.item-item.result
    c.loop-item.invariant c.in_ok-gather.ensures c.loop-item-test.true c.item-item.is
