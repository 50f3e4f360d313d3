use Rattle.std.proofs.Common.{◌≡◌, rules}
use Rattle.image_model.specs.Columns.{type_spec_signature}
use Rattle.signature_demands.proofs.references.has_type.Goals as goal

pub returns : goal.returns
returns g c =
    let index : c.cell-index.result ≡ type_spec_signature c.args.all.now.image.now c.args.row = search rules in
    rw index at c.is_type.ensures
