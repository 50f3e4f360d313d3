use Rattle.std.proofs.Common.{ℕ, ◌-◌, ◌∙◌, ap}
use Rattle.std.specs.Prelude.{sum_by}
use Rattle.image_model.specs.Columns.{interface_class}
use Rattle.image_model.specs.Rows.{rows_with}
use Rattle.row_parts.proofs.Orders.{interfaces_ascend}
use Rattle.image_weights.specs.RowWeights.{interface_row}
use Rattle.image_weights.proofs.interface_rows.charge_interfaces.Goals as goal

pub charge_owned-requires-clause-order : goal.charge_owned-requires-clause-order
charge_owned-requires-clause-order g c = interfaces_ascend c.args.source.now.image.now c.requires

pub charge_owned-requires-clause-there : goal.charge_owned-requires-clause-there
charge_owned-requires-clause-there g c = λ row there e. there

pub returns : goal.returns
returns g c =
    let image = c.args.source.now.image.now in
    let told = g.W.RowWeights.told c.args.source.now.weights.now in
    c.charge_owned.ensures ∙ ap (λ (value : ℕ). c.args.left - sum_by (interface_row image told c.args.source.now.fresh.now) (rows_with image 0x09 interface_class value)) c.from.ensures
