use Rattle.std.proofs.Common.{◌-◌, ◌+◌, ◌*◌, length}
use Rattle.branch_forms.proofs.Choices.{IsBound, Settled}
use Rattle.branch_forms.proofs.Measure.{shorts}
use Rattle.branch_forms.proofs.shortest.shorten.Given as goal

abbrev pub invariant-loop-k : goal.invariant-loop-k
invariant-loop-k l = IsBound l.fn.forms l.forms

abbrev pub invariant-loop-next : goal.invariant-loop-next
invariant-loop-next l = record { bound : IsBound l.fn.forms l.forms; settled : Settled l.forms l.next }

-- short branches, and within as many the instructions ahead
abbrev pub decreases-loop-next : goal.decreases-loop-next
decreases-loop-next l = shorts l.forms * (length l.forms + 1) + (length l.forms - l.next)
