use Rattle.std.proofs.Common.{◌≡◌, take, fold}
use Rattle.print_members.specs.Flags.{nested_step}
use Rattle.print_members.proofs.flags.write_nested_words.Given as goal

abbrev pub invariant-loop-row : goal.invariant-loop-row
invariant-loop-row l = l.paper ≡ fold (nested_step l.flags) l.initial.paper (take l.row-index l.words)
