use Rattle.std.proofs.Common.{◌≤◌, ◌↔◌, drop, map}
use Rattle.type_terms.specs.Depth.{depth, largest}
use Rattle.type_terms.proofs.depth.+depth.Given as goal

abbrev pub invariant-are_within-loop-of : goal.invariant-are_within-loop-of
invariant-are_within-loop-of l = (largest (map depth l.types) ≤ l.limit) ↔ (largest (map depth (drop l.of-index l.types)) ≤ l.limit)
