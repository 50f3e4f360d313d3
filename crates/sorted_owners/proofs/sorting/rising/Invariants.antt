use Rattle.std.proofs.Common.{◌≡◌, length}
use Rattle.sorted_owners.specs.Rising.{rising}
use Rattle.sorted_owners.specs.Ranks.{owners_of}
use Rattle.sorted_owners.proofs.RisingLemmas.{put_all}
use Rattle.sorted_owners.proofs.sorting.rising.Given as goal

abbrev pub invariant-loop-owner : goal.invariant-loop-owner
invariant-loop-owner l = put_all l.left (owners_of l.ranked.keys) ≡ rising l.fn.owners

abbrev pub decreases-loop-owner : goal.decreases-loop-owner
decreases-loop-owner l = length l.left
