use Rattle.std.proofs.Common.{drop}
use Rattle.image_rows.proofs.InterfaceLemmas.{IndexesTo}
use Rattle.image_rows.proofs.interface_rows.indexes_of.Given as goal

abbrev pub invariant-loop-owner : goal.invariant-loop-owner
invariant-loop-owner l = IndexesTo l.initial.refs l.refs l.indexes l.owners (drop l.owner-index l.owners)
