use Rattle.std.proofs.Common.{◌≡◌, ◌*◌, sym, ◌∙◌, ap}
use Rattle.std.specs.List.{range_with_len}
use Rattle.image_model.specs.Columns.{semantics_association}
use Rattle.image_model.specs.Members.{semantics_of, event_kinds}
use Rattle.image_model.specs.Rows.{rows_with}
use Rattle.member_demands.proofs.Owned.{event_index}
use Rattle.member_demands.proofs.Valued.{kinds_told}
use Rattle.member_demands.proofs.kinds.event_has_kinds.Goals as goal

pub returns : goal.returns
returns c =
    let rows = c.accessors_of.result in
    let are : semantics_of c.args.image.now 0x14 c.args.row ≡ range_with_len rows.first rows.count
    = ap (rows_with c.args.image.now 0x18 semantics_association) (event_index c.args.row ∙ ap (λ r. r * 2) (sym c.from.ensures)) ∙ c.accessors_of.ensures.rows in
    let told = kinds_told c.args.image.now event_kinds 0x14 c.args.row rows.first rows.count are in
    (λ yes. told.0 (c.have_kinds.ensures.0 yes), λ has. c.have_kinds.ensures.1 (told.1 has))
