use Rattle.std.proofs.Common.{◌≡◌, ◌-◌, ◌*◌, ◌+◌}
use Rattle.sig_codec.specs.Reading.{type_at, types_at}
use Rattle.sig_codec.proofs.Loop.{with_types}
use Rattle.sig_codec.proofs.types.+types.Given as goal

abbrev pub decreases-type_at : goal.decreases-type_at
decreases-type_at g l = 6 * l.depth

abbrev pub decreases-boxed_at : goal.decreases-boxed_at
decreases-boxed_at g l = 6 * l.depth + 1

abbrev pub decreases-types_at : goal.decreases-types_at
decreases-types_at g l = 6 * l.depth + 1

abbrev pub decreases-all_types_at : goal.decreases-all_types_at
decreases-all_types_at g l = 6 * l.depth + 2

abbrev pub decreases-array_at : goal.decreases-array_at
decreases-array_at g l = 6 * l.depth + 3

abbrev pub decreases-inst_at : goal.decreases-inst_at
decreases-inst_at g l = 6 * l.depth + 3

abbrev pub decreases-modified_at : goal.decreases-modified_at
decreases-modified_at g l = 6 * l.depth + 3

abbrev pub decreases-parts_at : goal.decreases-parts_at
decreases-parts_at g l = 6 * l.depth + 4

abbrev pub invariant-types_at-loop : goal.invariant-types_at-loop
invariant-types_at-loop g l =
    let sub = type_at (g.N.Namer.owners l.names) l.depth in
    with_types l.types (types_at sub (l.count - l.counter) l.left.bytes.now l.left.nodes) ≡ types_at sub l.count l.initial.left.bytes.now l.initial.left.nodes
