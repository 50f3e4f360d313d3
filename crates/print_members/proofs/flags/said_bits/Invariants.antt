use Rattle.std.proofs.Common.{◌≡◌, take, fold}
use Rattle.print_members.specs.Flags.{bits_step}
use Rattle.print_members.proofs.flags.said_bits.Given as goal

abbrev pub invariant-loop-row : goal.invariant-loop-row
invariant-loop-row l = l.bits ≡ fold (bits_step l.flags) 0 (take l.row-index l.words)
