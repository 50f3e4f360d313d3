use Rattle.row_weights.specs.Rows.{known}
use Rattle.row_weights.proofs.Telling.{parent_owner, parent_method}
use Rattle.row_weights.proofs.members.Members.parent.Goals as goal

pub returns-then-has_row : goal.returns-then-has_row
returns-then-has_row g c =
    parent_method (known c.args.self.now.image.now c.args.self.now.names.now.weights (g.O.Owners.facts c.args.self.now.signatures.now.owners.now)) c.requires c.args.table c.args.row c.method_owner.result c.of_type.result c.if-table-eq6.true c.method_owner.ensures c.of_type.ensures

pub returns : goal.returns
returns g c = parent_owner (known c.args.self.now.image.now c.args.self.now.names.now.weights (g.O.Owners.facts c.args.self.now.signatures.now.owners.now)) c.requires c.args.table c.args.row c.owner.result c.if-table-eq6.false c.owner.ensures
