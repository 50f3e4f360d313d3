use Rattle.std.proofs.Common.{◌≡◌, rules}
use Rattle.image_model.specs.Columns.{member_signature}
use Rattle.signature_bounds.specs.Bounded.{FieldIs, MethodIs, IsBounded}
use Rattle.signature_demands.proofs.Rows.{no_by, or_left, or_right}
use Rattle.signature_demands.proofs.references.has_member.Goals as goal

pub returns-then-is_method : goal.returns-then-is_method
returns-then-is_method g c =
    let index : c.cell-index.result ≡ member_signature c.args.all.now.image.now c.args.row = search rules in
    or_left (MethodIs c.args.all.now.image.now (g.O.Owners.facts c.args.all.now.owners.now) (member_signature c.args.all.now.image.now c.args.row) IsBounded) (FieldIs c.args.all.now.image.now (g.O.Owners.facts c.args.all.now.owners.now) (member_signature c.args.all.now.image.now c.args.row))
    (rw index at (c.is_method.ensures.0 c.if-is_method.true))

pub returns : goal.returns
returns g c =
    let index : c.cell-index.result ≡ member_signature c.args.all.now.image.now c.args.row = search rules in
    or_right (MethodIs c.args.all.now.image.now (g.O.Owners.facts c.args.all.now.owners.now) (member_signature c.args.all.now.image.now c.args.row) IsBounded) (FieldIs c.args.all.now.image.now (g.O.Owners.facts c.args.all.now.owners.now) (member_signature c.args.all.now.image.now c.args.row)) c.is_field.result
    (rw index at (no_by (MethodIs c.args.all.now.image.now (g.O.Owners.facts c.args.all.now.owners.now) c.cell-index.result IsBounded) c.is_method.result c.is_method.ensures c.if-is_method.false))
    (rw index at c.is_field.ensures)
