use Rattle.std.proofs.Common.{ℕ, ◌+◌, ◌-◌, ◌∙◌, ap}
use Rattle.std.specs.Prelude.{slice_index}
use Rattle.image_model.specs.Columns.{data_field}
use Rattle.image_model.specs.Rows.{rows_with}
use Rattle.row_parts.proofs.Orders.{data_ascend}
use Rattle.image_weights.specs.RowWeights.{first_weight}
use Rattle.image_weights.proofs.field_rows.charge_data.Goals as goal

pub charge_first-requires-clause-order : goal.charge_first-requires-clause-order
charge_first-requires-clause-order c = data_ascend c.args.image.now c.requires

pub charge_first-requires-clause-there : goal.charge_first-requires-clause-there
charge_first-requires-clause-there c = λ row there e. tt

pub returns : goal.returns
returns c = c.charge_first.ensures ∙ ap (λ (value : ℕ). c.args.left - first_weight (λ k. 64 + slice_index c.args.sizes.now k) (rows_with c.args.image.now 0x1D data_field value)) c.from.ensures
