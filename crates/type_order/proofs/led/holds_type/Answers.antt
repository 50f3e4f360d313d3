use Rattle.type_order.proofs.LedLemmas.{type_held}
use Rattle.type_order.proofs.led.holds_type.Goals as goal

pub returns : goal.returns
returns c = type_held c.args.pool.now c.args.queue.now c.args.b c.holds.result c.len-length.ensures.pool c.requires.queue c.requires.b c.holds.ensures
