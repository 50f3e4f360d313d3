use Rattle.std.proofs.Common.{rules}
use Rattle.row_twins.specs.declared.hashed.Hashed.{Hashed}
use Rattle.row_twins.specs.declared.hashed.HashedRows.{HashedRows}
use Rattle.row_twins.proofs.Finding.{linked_more}
use Rattle.row_twins.proofs.hashed.HashedRows.add.Goals as goal

pub returns-clause-linked : goal.returns-clause-linked
returns-clause-linked c =
    let old = c.args.self.now in
    let new : HashedRows = record { newest = c.insert.new.self; rows = c.push.new.self; nexts = c.push-2.new.self } in
    let r : Hashed = record { hash = c.args.hash; row = c.args.row } in
    linked_more old new r c.requires (search rules) (search rules) (search rules)
