use Rattle.std.proofs.Common.{◌≡◌, true, drop}
use Rattle.print_leaves.specs.Parts.{any_empty}
use Rattle.print_leaves.proofs.names.has_empty_piece.Given as goal

abbrev pub invariant-loop-byte : goal.invariant-loop-byte
invariant-loop-byte l = any_empty l.is_new (drop l.byte-index l.text) ≡ any_empty true l.text
