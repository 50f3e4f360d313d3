use Rattle.std.proofs.Common.{◌≡◌, ◌∙◌, ap, arith}
use Rattle.metadata_tables.specs.Stream.{cell}
use Rattle.image_model.specs.Columns.{semantics_method}
use Rattle.image_properties.proofs.MethodPlaces.{method_behind}
use Rattle.image_properties.proofs.accessor_rows.accessor.Goals as goal

pub overflow_sub-method : goal.overflow_sub-method
overflow_sub-method c =
    let image = c.args.image.now in
    let is : c.cell.result ≡ semantics_method image c.args.row = c.cell.ensures ∙ ap (λ stream. cell stream 0x18 c.args.row 1) c.tables.ensures.tables in
    let low = method_behind image c.args._type_row (semantics_method image c.args.row) c.requires.own in
    let first = c.requires.first in
    omega (arith, is, low, first)

pub returns : goal.returns
returns c =
    let image = c.args.image.now in
    let is : c.cell.result ≡ semantics_method image c.args.row = c.cell.ensures ∙ ap (λ stream. cell stream 0x18 c.args.row 1) c.tables.ensures.tables in
    let low = method_behind image c.args._type_row (semantics_method image c.args.row) c.requires.own in
    let first = c.requires.first in
    record { kind = c.number_of-kind.ensures; method = omega (arith, is, low, first) }
