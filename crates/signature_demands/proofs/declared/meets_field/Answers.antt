use Rattle.std.proofs.Common.{◌≡◌, rules}
use Rattle.image_model.specs.Columns.{field_signature}
use Rattle.signature_demands.proofs.Rows.{field_row}
use Rattle.signature_demands.proofs.declared.meets_field.Goals as goal

pub returns : goal.returns
returns g c =
    let index : c.cell-index.result ≡ field_signature c.args.all.now.image.now c.args.row = search rules in
    field_row c.args.all.now.image.now (g.O.Owners.facts c.args.all.now.owners.now) c.args.row c.is_field.result c.cell-index.result c.requires index c.is_field.ensures
