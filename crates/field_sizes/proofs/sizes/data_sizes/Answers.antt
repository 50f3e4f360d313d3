use Rattle.std.proofs.Common.{◌≡◌, ◌+◌, refl, ◌∙◌, ap, arith}
use Rattle.metadata_tables.specs.Stream.{row_count}
use Rattle.image_model.specs.Rows.{count_of}
use Rattle.field_sizes.proofs.Measuring.{one_more}
use Rattle.field_sizes.proofs.sizes.data_sizes.Goals as goal

pub loop-row-preserved : goal.loop-row-preserved
loop-row-preserved c =
    let end : c.rows-count.result ≡ count_of c.args.image.now 0x1D = c.rows-count.ensures.rows ∙ ap (λ stream. row_count stream 0x1D) c.tables.ensures.tables in
    let row = c.loop-row.row in
    one_more c.args.image.now row (row + 1) c.loop-row.sizes.items (row + 1) c.size_at.result refl (let t = c.loop-row-test.true in omega arith) refl c.size_at.ensures c.loop-row.invariant
