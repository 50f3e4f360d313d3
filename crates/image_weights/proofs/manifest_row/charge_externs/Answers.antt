use Rattle.std.proofs.Common.{◌≡◌, ℕ, ◌-◌, List, sym, ◌∙◌, ap, arith}
use Rattle.std.specs.List.{range_with_len}
use Rattle.std.specs.Prelude.{sum_by}
use Rattle.metadata_tables.specs.Stream.{row_count}
use Rattle.image_model.specs.Rows.{count_of}
use Rattle.image_weights.specs.RowWeights.{extern_row}
use Rattle.image_weights.proofs.RowSums.{rows_are}
use Rattle.image_weights.proofs.manifest_row.charge_externs.Goals as goal

pub charge_rows-requires-clause-there : goal.charge_rows-requires-clause-there
charge_rows-requires-clause-there c = λ k less.
    let n : c.rows-externs.result ≡ count_of c.args.image.now 0x23 = c.rows-externs.ensures.rows ∙ ap (λ stream. row_count stream 0x23) c.tables.ensures.tables in
    let f = c.from.ensures in
    (omega arith, omega (arith, n, f, less))

pub returns : goal.returns
returns c =
    let image = c.args.image.now in
    let n : c.rows-externs.result ≡ count_of image 0x23 = c.rows-externs.ensures.rows ∙ ap (λ stream. row_count stream 0x23) c.tables.ensures.tables in
    let f : c.from.result ≡ count_of image 0x23 = c.from.ensures ∙ n in
    c.charge_rows.ensures
    ∙ ap (λ (k : ℕ). c.args.left - sum_by (extern_row image) (range_with_len 1 k)) f
    ∙ ap (λ (rows : List ℕ). c.args.left - sum_by (extern_row image) rows) (sym (rows_are image 0x23))
