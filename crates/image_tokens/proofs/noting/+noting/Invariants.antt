use Rattle.std.proofs.Common.{◌+◌, ◌*◌, map, drop}
use Rattle.type_terms.specs.Depth.{depth, owner_depth, largest}
use Rattle.image_tokens.proofs.NotedLemmas.{AreNotedTo}
use Rattle.image_tokens.proofs.noting.+noting.Given as goal

abbrev pub decreases-note_type : goal.decreases-note_type
decreases-note_type l = 3 * depth l.t.now

abbrev pub decreases-note_types : goal.decreases-note_types
decreases-note_types l = 3 * largest (map depth l.types.now) + 1

abbrev pub decreases-refer_owner : goal.decreases-refer_owner
decreases-refer_owner l = 3 * owner_depth l.owner.now + 1

abbrev pub invariant-note_types-loop-t : goal.invariant-note_types-loop-t
invariant-note_types-loop-t l = AreNotedTo l.initial.refs l.refs l.types (drop l.t-index l.types)
