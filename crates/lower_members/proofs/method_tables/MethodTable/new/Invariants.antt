use Rattle.std.proofs.Common.{◌≤◌, length, map, drop, reverse}
use Rattle.std.specs.Prelude.{nat_eq}
use Rattle.indexmap.specs.IndexMap.{get}
use Rattle.source_nodes.specs.Chains.{IsChained}
use Rattle.lower_members.specs.MethodHashes.{signed_hash}
use Rattle.lower_members.specs.SignedMethods.{signed}
use Rattle.lower_members.proofs.method_tables.MethodTable.new.Given as goal

abbrev pub invariant-loop-more : goal.invariant-loop-more
invariant-loop-more l = record {
  within : l.more ≤ length l.methods;
  chained : IsChained signed_hash (get nat_eq l.newest) (reverse (drop l.more (map signed l.methods))) l.nexts;
}

abbrev pub decreases-loop-more : goal.decreases-loop-more
decreases-loop-more l = l.more
