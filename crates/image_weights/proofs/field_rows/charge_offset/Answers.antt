use Rattle.std.proofs.Common.{ℕ, ◌-◌, ◌∙◌, ap}
use Rattle.image_model.specs.Columns.{offset_field}
use Rattle.image_model.specs.Rows.{rows_with}
use Rattle.row_parts.proofs.Orders.{offsets_ascend}
use Rattle.image_weights.specs.RowWeights.{first_weight}
use Rattle.image_weights.proofs.field_rows.charge_offset.Goals as goal

pub charge_present-requires-clause-order : goal.charge_present-requires-clause-order
charge_present-requires-clause-order c = offsets_ascend c.args.image.now c.requires

pub returns : goal.returns
returns c = c.charge_present.ensures ∙ ap (λ (value : ℕ). c.args.left - first_weight (λ k. 64) (rows_with c.args.image.now 0x10 offset_field value)) c.from.ensures
