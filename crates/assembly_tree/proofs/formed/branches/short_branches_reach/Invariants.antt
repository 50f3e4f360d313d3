use Rattle.std.proofs.Common.{◌≡◌, ◌+◌, length}
use Rattle.std.specs.List.{list_all, enumerate_from}
use Rattle.assembly_tree.specs.WellFormedBodies.{reaches}
use Rattle.assembly_tree.proofs.formed.branches.short_branches_reach.Given as goal

abbrev pub invariant-loop-rest : goal.invariant-loop-rest
invariant-loop-rest l =
    record {
      same : list_all (reaches l.code) (enumerate_from 0 l.code) ≡ list_all (reaches l.code) (enumerate_from l.k l.rest);
      place : l.k + length l.rest ≡ length l.code;
    }

abbrev pub decreases-loop-rest : goal.decreases-loop-rest
decreases-loop-rest l = length l.rest
