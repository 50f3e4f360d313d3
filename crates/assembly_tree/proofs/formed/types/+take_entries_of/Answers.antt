use Rattle.std.proofs.Common.{arith}
use Rattle.assembly_tree.specs.WellFormedTypes.{entries_of}
use Rattle.assembly_tree.proofs.FormedTypes.{entries_out}
use Rattle.assembly_tree.proofs.Prefixes.{sum_with_next}
use Rattle.assembly_tree.proofs.formed.types.+take_entries_of.Goals as goal

pub loop-of-preserved : goal.loop-of-preserved
loop-of-preserved t c =
    let own = rw c.own_methods.ensures at c.take_entries-left.ensures in
    let inner = rw c.inner.ensures at c.take_entries_of-left.ensures in
    omega (
      arith,
      own,
      inner,
      c.loop-of.invariant,
      entries_out c.of-item.result,
      sum_with_next entries_of c.args.types.now c.loop-of.of-index c.of-item.result c.loop-of-test.true c.of-item.is,
    )
