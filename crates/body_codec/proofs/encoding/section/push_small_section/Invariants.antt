use Rattle.std.proofs.Common.{◌≡◌, ◌++◌, take}
use Rattle.std.specs.List.{flat_map}
use Rattle.body_codec.specs.Written.{small_bytes}
use Rattle.body_codec.proofs.encoding.section.push_small_section.Given as goal

abbrev pub invariant-loop-row : goal.invariant-loop-row
invariant-loop-row l = l.out ≡ l.initial.out ++ flat_map small_bytes (take l.row-index l.rows)
