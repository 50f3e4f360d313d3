use Rattle.std.proofs.Common.{◌≡◌, ◌<◌, nat_le, nat_lt, length}
use Rattle.std.specs.List.{sum_by}
use Rattle.branch_forms.specs.Forms.{width}
use Rattle.branch_forms.proofs.reach.fits_in.Given as goal

-- the whole fits in the room where the rest leaves something of what is left
abbrev pub invariant-loop-rest : goal.invariant-loop-rest
invariant-loop-rest l =
    record { fits : nat_le (sum_by width l.forms) l.room ≡ nat_lt (sum_by width l.rest) l.left; some : 0 < l.left }

abbrev pub decreases-loop-rest : goal.decreases-loop-rest
decreases-loop-rest l = length l.rest
