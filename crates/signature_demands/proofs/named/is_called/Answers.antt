use Rattle.std.proofs.Common.{◌≡◌, rules}
use Rattle.image_model.specs.Columns.{member_signature}
use Rattle.signature_demands.proofs.named.is_called.Goals as goal

pub returns : goal.returns
returns g c =
    let index : c.cell-index.result ≡ member_signature c.args.all.now.image.now c.args.row = search rules in
    rw index at c.is_spelled_method.ensures
