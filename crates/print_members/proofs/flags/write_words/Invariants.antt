use Rattle.std.proofs.Common.{◌≡◌, take, fold}
use Rattle.print_members.specs.Flags.{word_step}
use Rattle.print_members.proofs.flags.write_words.Given as goal

abbrev pub invariant-loop-row : goal.invariant-loop-row
invariant-loop-row l = l.paper ≡ fold (word_step l.flags) l.initial.paper (take l.row-index l.words)
