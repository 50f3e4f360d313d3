use Rattle.std.proofs.Common.{◌≡◌, ◌-◌, ◌*◌, ◌+◌}
use Rattle.signature_equality.specs.Walking.{same_type, same_types}
use Rattle.signature_equality.proofs.types.+types.Given as goal

abbrev pub decreases-same_type : goal.decreases-same_type
decreases-same_type g l = 6 * l.depth

abbrev pub decreases-same_mod : goal.decreases-same_mod
decreases-same_mod g l = 6 * l.depth + 1

abbrev pub decreases-same_array : goal.decreases-same_array
decreases-same_array g l = 6 * l.depth + 1

abbrev pub decreases-same_types : goal.decreases-same_types
decreases-same_types g l = 6 * l.depth + 1

abbrev pub decreases-same_all : goal.decreases-same_all
decreases-same_all g l = 6 * l.depth + 2

abbrev pub decreases-same_list : goal.decreases-same_list
decreases-same_list g l = 6 * l.depth + 3

abbrev pub decreases-same_inst : goal.decreases-same_inst
decreases-same_inst g l = 6 * l.depth + 4

abbrev pub decreases-same_parts : goal.decreases-same_parts
decreases-same_parts g l = 6 * l.depth + 5

abbrev pub invariant-same_types-loop-done : goal.invariant-same_types-loop-done
invariant-same_types-loop-done g l =
    let walk = same_type (g.N.Numbering.canon l.numbers) l.depth in
    same_types walk (l.count - l.done) (l.at.a.now, l.at.b.now) ≡ same_types walk l.count (l.initial.at.a.now, l.initial.at.b.now)
