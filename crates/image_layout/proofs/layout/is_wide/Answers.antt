use Rattle.image_layout.proofs.IndexLemmas.{wide_is}
use Rattle.image_layout.proofs.layout.is_wide.Goals as goal

pub returns : goal.returns
returns c = wide_is c.args.heap.now
