use Rattle.std.proofs.Common.{◌≡◌, ℕ, ◌-◌, ◌∙◌, ap, arith}
use Rattle.std.specs.List.{range_with_len}
use Rattle.std.specs.Prelude.{sum_by}
use Rattle.metadata_tables.specs.Stream.{row_count}
use Rattle.image_model.specs.Rows.{count_of}
use Rattle.image_weights.specs.RowWeights.{type_row}
use Rattle.image_weights.proofs.type_rows.charge_types.Goals as goal

pub charge_rows-requires-clause-there : goal.charge_rows-requires-clause-there
charge_rows-requires-clause-there g c = λ k less.
    let n : c.rows-types.result ≡ count_of c.args.source.now.image.now 0x02 = c.rows-types.ensures.rows ∙ ap (λ stream. row_count stream 0x02) c.tables.ensures.tables in
    let s = c.saturating_sub.ensures in
    let f = c.from.ensures in
    ((omega arith, omega (arith, n, s, f, less)), c.requires.maps, c.requires.stands)

pub returns : goal.returns
returns g c =
    let image = c.args.source.now.image.now in
    let told = g.W.RowWeights.told c.args.source.now.weights.now in
    let n : c.rows-types.result ≡ count_of image 0x02 = c.rows-types.ensures.rows ∙ ap (λ stream. row_count stream 0x02) c.tables.ensures.tables in
    let s = c.saturating_sub.ensures in
    let f = c.from.ensures in
    let e : c.from.result ≡ count_of image 0x02 - 1 = omega (arith, n, s, f) in
    c.charge_rows.ensures ∙ ap (λ (k : ℕ). c.args.left - sum_by (type_row image told c.args.source.now.sizes.now c.args.source.now.fresh.now) (range_with_len 2 k)) e
