use Rattle.std.proofs.Common.{◌≡◌, rules}
use Rattle.image_model.specs.Columns.{method_signature}
use Rattle.signature_demands.proofs.Rows.{method_row}
use Rattle.signature_demands.proofs.declared.meets_method.Goals as goal

pub returns : goal.returns
returns g c =
    let index : c.cell-index.result ≡ method_signature c.args.all.now.image.now c.args.row = search rules in
    method_row c.args.all.now.image.now (g.O.Owners.facts c.args.all.now.owners.now) c.args.row c.is_declared_method.result c.cell-index.result c.requires index c.is_declared_method.ensures
