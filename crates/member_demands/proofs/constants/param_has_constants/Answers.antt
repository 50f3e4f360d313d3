use Rattle.std.proofs.Common.{◌≡◌, ◌+◌, ◌*◌, sym, ◌∙◌, ap}
use Rattle.std.specs.List.{range_with_len}
use Rattle.image_model.specs.Columns.{constant_parent}
use Rattle.image_model.specs.Members.{constants_of}
use Rattle.image_model.specs.Rows.{rows_with}
use Rattle.member_demands.proofs.ConstantCases.{param_index, constants_told}
use Rattle.member_demands.proofs.constants.param_has_constants.Goals as goal

pub returns : goal.returns
returns c =
    let rows = c.constants_of.result in
    let are : constants_of c.args.image.now 0x08 c.args.row ≡ range_with_len rows.first rows.count
    = ap (rows_with c.args.image.now 0x0B constant_parent) (param_index c.args.row ∙ ap (λ r. r * 4 + 1) (sym c.from.ensures)) ∙ c.constants_of.ensures.rows in
    let told = constants_told c.args.image.now 0x08 c.args.row rows.first rows.count are in
    (λ yes. told.0 (c.are_constants.ensures.0 yes), λ has. c.are_constants.ensures.1 (told.1 has))
