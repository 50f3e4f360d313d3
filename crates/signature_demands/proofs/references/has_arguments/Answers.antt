use Rattle.std.proofs.Common.{◌≡◌, rules}
use Rattle.image_model.specs.Columns.{instance_arguments}
use Rattle.signature_demands.proofs.references.has_arguments.Goals as goal

pub returns : goal.returns
returns g c =
    let index : c.cell-index.result ≡ instance_arguments c.args.all.now.image.now c.args.row = search rules in
    rw index at c.are_arguments.ensures
