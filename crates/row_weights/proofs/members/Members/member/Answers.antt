use Rattle.std.proofs.Common.{◌+◌, arith}
use Rattle.row_weights.specs.Rows.{known}
use Rattle.row_weights.proofs.Telling.{member_method, member_field}
use Rattle.row_weights.proofs.members.Members.member.Goals as goal

pub returns-clause-method : goal.returns-clause-method
returns-clause-method g c =
    member_method (known c.args.self.now.image.now c.args.self.now.names.now.weights (g.O.Owners.facts c.args.self.now.signatures.now.owners.now)) c.requires.known c.args.row (c.reference.result + c.from.result) c.member_owner-owner.result c.text_at-name.result
    c.at_cell-method.result c.at_cell-field.result c.requires.there c.member_owner-owner.ensures c.text_at-name.ensures c.at_cell-method.ensures c.at_cell-field.ensures
    (let r = c.reference.ensures in let f = c.from.ensures in omega (arith, r, f))

pub returns-clause-field : goal.returns-clause-field
returns-clause-field g c =
    member_field (known c.args.self.now.image.now c.args.self.now.names.now.weights (g.O.Owners.facts c.args.self.now.signatures.now.owners.now)) c.requires.known c.args.row (c.reference.result + c.from.result) c.member_owner-owner.result c.text_at-name.result
    c.at_cell-method.result c.at_cell-field.result c.requires.there c.member_owner-owner.ensures c.text_at-name.ensures c.at_cell-method.ensures c.at_cell-field.ensures
    (let r = c.reference.ensures in let f = c.from.ensures in omega (arith, r, f))
