use Rattle.std.proofs.Common.{rules}
use Rattle.branch_forms.proofs.Between.{near_back, near_ahead}
use Rattle.branch_forms.proofs.reach.is_near.Goals as goal

pub returns-then-to-from : goal.returns-then-to-from
returns-then-to-from c = search (rules, near_back)

pub returns-else-to-from : goal.returns-else-to-from
returns-else-to-from c = search (rules, near_ahead)
