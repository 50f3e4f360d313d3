use Rattle.std.proofs.Common.{◌∙◌, ap}
use Rattle.metadata_tables.specs.Stream.{cell}
use Rattle.field_data.proofs.Sized.{none_has_size, one_has_size}
use Rattle.field_data.proofs.layouts.class_size.Goals as goal

pub returns-then-layouts-eq0 : goal.returns-then-layouts-eq0
returns-then-layouts-eq0 c =
    let rows = c.layouts_of-layouts.result in
    none_has_size c.args.image.now c.args.row rows.first rows.count c.layouts_of-layouts.ensures.rows c.if-layouts-eq0.true

pub returns : goal.returns
returns c =
    let rows = c.layouts_of-layouts.result in
    one_has_size c.args.image.now c.args.row rows.first rows.count c.layouts_of-layouts.ensures.rows c.cell.result c.requires.one c.if-layouts-eq0.false
    (c.cell.ensures ∙ ap (λ stream. cell stream 0x0F rows.first 1) c.tables.ensures.tables)
