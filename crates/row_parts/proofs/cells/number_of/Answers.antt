use Rattle.std.proofs.Common.{◌≡◌, ◌^◌, ◌<◌, ap, sym, ◌∙◌, subst, arith}
use Rattle.metadata_tables.specs.Stream.{cell}
use Rattle.image_model.specs.Streams.{tables_of}
use Rattle.row_parts.proofs.Shorts.{cell_is_short}
use Rattle.row_parts.proofs.cells.number_of.Goals as goal

pub overflow_cast-result : goal.overflow_cast-result
overflow_cast-result c =
    let is : c.cell.result ≡ cell (tables_of c.args.image.now) c.args.table c.args.row c.args.column = c.cell.ensures ∙ ap (λ stream. cell stream c.args.table c.args.row c.args.column) c.tables.ensures.tables in
    let small : c.cell.result < 2 ^ 16 = subst (λ n. n < 2 ^ 16) (sym is) (cell_is_short (tables_of c.args.image.now) c.args.table c.args.row c.args.column c.requires.bytes c.requires.kind) in
    omega (arith, small)
