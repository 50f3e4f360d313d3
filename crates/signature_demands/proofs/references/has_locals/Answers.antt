use Rattle.std.proofs.Common.{◌≡◌, rules}
use Rattle.image_model.specs.Columns.{locals_signature}
use Rattle.signature_demands.proofs.references.has_locals.Goals as goal

pub returns : goal.returns
returns g c =
    let index : c.cell-index.result ≡ locals_signature c.args.all.now.image.now c.args.row = search rules in
    rw index at c.are_locals.ensures
