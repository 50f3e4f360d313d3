use Rattle.std.proofs.Common.{arith}
use Rattle.source_flags.proofs.FlagLemmas.{no_number}
use Rattle.source_flags.proofs.flag_rows.is_number.Goals as goal

pub returns-in-Leaf : goal.returns-in-Leaf
returns-in-Leaf c = no_number c.forests_open.ensures c.args.below.now c.in-Leaf.token _ (omega arith) (omega arith) c.in-Leaf.is
