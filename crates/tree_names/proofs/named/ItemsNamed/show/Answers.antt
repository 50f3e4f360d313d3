use Rattle.tree_names.proofs.Seeing.{step_seen}
use Rattle.tree_names.proofs.named.ItemsNamed.show.Goals as goal

pub loop-item-preserved : goal.loop-item-preserved
loop-item-preserved g c =
    step_seen g.L.Looks.seen g.T.Named.names c.args.to.now c.loop-item.to c.show.new.to c.as_slice-item-items.result.now c.loop-item.item-index c.item-item.result
    c.loop-item.invariant c.in_ok-show.ensures c.loop-item-test.true c.item-item.is
