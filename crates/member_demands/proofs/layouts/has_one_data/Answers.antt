use Rattle.std.proofs.Common.{◌≡◌, length, sym, ap, ◌∙◌, arith}
use Rattle.std.proofs.lemmas.Bool.{leb-true, le-leb}
use Rattle.std.proofs.lemmas.List.FromFn.{length-range_with_len}
use Rattle.image_model.specs.Columns.{data_field}
use Rattle.image_model.specs.Members.{data_of}
use Rattle.image_model.specs.Rows.{rows_with}
use Rattle.member_demands.proofs.Ordered.{data_ascend}
use Rattle.member_demands.proofs.layouts.has_one_data.Goals as goal

pub owned_rows-requires-clause-order : goal.owned_rows-requires-clause-order
owned_rows-requires-clause-order c = data_ascend c.args.image.now c.requires.meets

pub returns : goal.returns
returns c =
    let rows = c.owned_rows.result in
    let long : length (data_of c.args.image.now c.args.row) ≡ rows.count
    = ap (λ value. length (rows_with c.args.image.now 0x1D data_field value)) (sym c.from.ensures) ∙ ap length c.owned_rows.ensures.rows ∙ length-range_with_len rows.first rows.count in
    (λ yes. let few = leb-true rows.count 1 yes in omega arith, λ few. le-leb rows.count 1 (omega arith))
