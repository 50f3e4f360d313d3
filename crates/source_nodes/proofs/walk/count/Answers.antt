use Rattle.std.proofs.Common.{◌∙◌}
use Rattle.source_nodes.proofs.NestingLemmas.{found_length}
use Rattle.source_nodes.proofs.walk.count.Goals as goal

pub returns : goal.returns
returns c f e = c.len.ensures ∙ found_length c.args.nodes.now _ c.args.production f (c.in_ok-found.ensures f e)
