use Rattle.std.proofs.Common.{◌≡◌, ◌-◌, ◌*◌, ◌+◌}
use Rattle.signature_facts.specs.Scanning.{type_at, types_at}
use Rattle.signature_facts.proofs.types.+types.Given as goal

abbrev pub decreases-type_at : goal.decreases-type_at
decreases-type_at g l = 6 * l.depth

abbrev pub decreases-boxed_at : goal.decreases-boxed_at
decreases-boxed_at g l = 6 * l.depth + 1

abbrev pub decreases-types_at : goal.decreases-types_at
decreases-types_at g l = 6 * l.depth + 1

abbrev pub decreases-all_types_at : goal.decreases-all_types_at
decreases-all_types_at g l = 6 * l.depth + 2

abbrev pub decreases-array_at : goal.decreases-array_at
decreases-array_at g l = 6 * l.depth + 3

abbrev pub decreases-inst_at : goal.decreases-inst_at
decreases-inst_at g l = 6 * l.depth + 3

abbrev pub decreases-modified_at : goal.decreases-modified_at
decreases-modified_at g l = 6 * l.depth + 3

abbrev pub decreases-parts_at : goal.decreases-parts_at
decreases-parts_at g l = 6 * l.depth + 4

abbrev pub invariant-types_at-loop-done : goal.invariant-types_at-loop-done
invariant-types_at-loop-done g l =
    let sub = type_at (g.O.Owners.facts l.map) l.depth in
    types_at sub l.front (l.count - l.done) l.left.bytes.now l.left.nodes ≡ types_at sub l.initial.front l.count l.initial.left.bytes.now l.initial.left.nodes
