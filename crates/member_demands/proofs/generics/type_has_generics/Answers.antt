use Rattle.std.proofs.Common.{◌≡◌, ◌*◌, sym, ◌∙◌, ap}
use Rattle.std.specs.List.{range_with_len}
use Rattle.image_model.specs.Columns.{generic_owner}
use Rattle.image_model.specs.Members.{generics_of}
use Rattle.image_model.specs.Rows.{rows_with}
use Rattle.member_demands.proofs.Valued.{type_index, generics_told}
use Rattle.member_demands.proofs.generics.type_has_generics.Goals as goal

pub returns : goal.returns
returns c =
    let rows = c.generics_of.result in
    let are : generics_of c.args.image.now 0x02 c.args.row ≡ range_with_len rows.first rows.count
    = ap (rows_with c.args.image.now 0x2A generic_owner) (type_index c.args.row ∙ ap (λ r. r * 2) (sym c.from.ensures)) ∙ c.generics_of.ensures.rows in
    let told = generics_told c.args.image.now 0x02 c.args.row rows.first rows.count are in
    (λ yes. told.0 (c.are_generics.ensures.0 yes), λ has. c.are_generics.ensures.1 (told.1 has))
