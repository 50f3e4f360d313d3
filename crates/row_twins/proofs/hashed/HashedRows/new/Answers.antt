use Rattle.row_twins.proofs.Finding.{linked_none}
use Rattle.row_twins.proofs.hashed.HashedRows.new.Goals as goal

pub returns-clause-linked : goal.returns-clause-linked
returns-clause-linked c =
    linked_none (record { newest = c.new.result; rows = c.new-2.result; nexts = c.new-3.result }) c.new-2.ensures c.new-3.ensures c.new.ensures
