use Rattle.std.proofs.Common.{arith}
use Rattle.source_flags.proofs.FlagLemmas.{own_word}
use Rattle.source_flags.proofs.flag_rows.word_of.Goals as goal

pub returns-in-Leaf : goal.returns-in-Leaf
returns-in-Leaf c = own_word c.forests_open.ensures c.args.below.now c.in-Leaf.token _ (omega arith) (omega arith) c.in-Leaf.is
