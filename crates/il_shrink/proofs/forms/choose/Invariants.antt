use Rattle.std.proofs.Common.{◌≡◌}
use Rattle.il_shrink.proofs.Choosing.{chosen_to}
use Rattle.il_shrink.proofs.forms.choose.Given as goal

abbrev pub invariant-loop-k : goal.invariant-loop-k
invariant-loop-k l = l.code ≡ chosen_to l.k l.initial.code l.forms
