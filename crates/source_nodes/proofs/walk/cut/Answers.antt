use Rattle.std.proofs.Common.{sym, arith}
use Rattle.std.proofs.lemmas.List.{take_all, drop_all}
use Rattle.source_nodes.proofs.walk.cut.Goals as goal

pub returns-else-count-nodes-clause-front : goal.returns-else-count-nodes-clause-front
returns-else-count-nodes-clause-front c = sym (take_all c.args.count c.args.nodes.now (omega arith))

pub returns-else-count-nodes-clause-back : goal.returns-else-count-nodes-clause-back
returns-else-count-nodes-clause-back c = sym (drop_all c.args.count c.args.nodes.now (omega arith))
