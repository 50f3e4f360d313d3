use Rattle.std.proofs.Common.{◌≡◌, rules}
use Rattle.image_model.specs.Columns.{property_signature}
use Rattle.signature_demands.proofs.Rows.{property_row}
use Rattle.signature_demands.proofs.declared.meets_property.Goals as goal

pub returns : goal.returns
returns g c =
    let index : c.cell-index.result ≡ property_signature c.args.all.now.image.now c.args.row = search rules in
    property_row c.args.all.now.image.now (g.O.Owners.facts c.args.all.now.owners.now) c.args.row c.is_property.result c.cell-index.result c.requires index c.is_property.ensures
