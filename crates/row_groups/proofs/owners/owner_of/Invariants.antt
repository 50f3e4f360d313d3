use Rattle.std.proofs.Common.{ℕ, ◌+◌, ◌-◌, ◌<◌, ◌≤◌, List}
use Rattle.image_model.specs.Rows.{count_of}
use Rattle.row_demands.specs.Members.{run_begin}
use Rattle.row_groups.proofs.owners.owner_of.Given as goal

-- the run of one row begins no later than a member, and that of another behind it
pub record IsBetween (image : List ℕ) (table column members member last end : ℕ) : Type 0 where
  pub some : 0 < last
  pub order : last < end
  pub within : end ≤ count_of image table + 1
  pub begins : run_begin image table column members last ≤ member
  pub next : end ≤ count_of image table → member < run_begin image table column members end

abbrev pub decreases-loop-last : goal.decreases-loop-last
decreases-loop-last l = l.end - l.last

abbrev pub invariant-loop-last : goal.invariant-loop-last
invariant-loop-last l = IsBetween l.image l.owners.table l.owners.column l.owners.members l.member l.last l.end
