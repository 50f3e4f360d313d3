use Rattle.std.proofs.Common.{◌≡◌, ◌-◌, ◌*◌, ◌+◌}
use Rattle.signature_tokens.specs.Collecting.{type_at, types_at}
use Rattle.signature_tokens.proofs.types.+types.Given as goal

abbrev pub decreases-type_at : goal.decreases-type_at
decreases-type_at l = 6 * l.depth

abbrev pub decreases-modified_at : goal.decreases-modified_at
decreases-modified_at l = 6 * l.depth + 1

abbrev pub decreases-array_at : goal.decreases-array_at
decreases-array_at l = 6 * l.depth + 1

abbrev pub decreases-types_at : goal.decreases-types_at
decreases-types_at l = 6 * l.depth + 1

abbrev pub decreases-list_at : goal.decreases-list_at
decreases-list_at l = 6 * l.depth + 2

abbrev pub decreases-inst_at : goal.decreases-inst_at
decreases-inst_at l = 6 * l.depth + 3

abbrev pub decreases-parts_at : goal.decreases-parts_at
decreases-parts_at l = 6 * l.depth + 4

abbrev pub invariant-types_at-loop : goal.invariant-types_at-loop
invariant-types_at-loop l =
    let sub = type_at l.depth in
    types_at sub (l.count - l.counter) l.into l.rest ≡ types_at sub l.count l.fn.into l.bytes
