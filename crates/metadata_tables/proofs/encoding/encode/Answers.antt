use Rattle.std.proofs.Common.{◌≡◌, ◌<◌, ◌++◌, ℕ, List, length, ap, ◌∙◌, arith}
use Rattle.std.specs.Prelude.{slice_index}
use Rattle.metadata_tables.specs.Schema.{columns_of}
use Rattle.metadata_tables.specs.Layout.{IsLayoutOf}
use Rattle.metadata_tables.specs.Encoding.{rows_of, rows_in}
use Rattle.metadata_tables.specs.Bytes.{header_bytes, body_bytes, table_bytes, widths_of}
use Rattle.metadata_tables.specs.declared.schema.Column.{Column}
use Rattle.metadata_tables.specs.declared.layout.RowLayout.{RowLayout}
use Rattle.metadata_tables.proofs.Joins.{joined_start, joined_push}
use Rattle.metadata_tables.proofs.Encoded.{encoded, table_bytes_agree, row_fits}
use Rattle.metadata_tables.proofs.encoding.encode.Goals as goal

abbrev table_at : (ℕ → ℕ) → ℕ → List (List (List ℕ)) → ℕ → List ℕ
table_at f wide tables t = table_bytes (widths_of f wide t) (rows_of tables t)

-- the widths in a layout are the columns'
widths : (f : ℕ → ℕ) (wide t : ℕ) (columns : List Column) (layout : RowLayout) → columns ≡ columns_of t → IsLayoutOf f wide columns layout → (k : ℕ) → k < length (columns_of t) → slice_index layout.widths k ≡ widths_of f wide t k
widths f wide t columns layout e is k h = (rw e at is).widths k h

pub loop-table-init : goal.loop-table-init
loop-table-init c =
    let header : c.push_header.new.out ≡ header_bytes (slice_index c.counts-counts.result) c.args.wide = c.in_ok-push_header.ensures ∙ ap (λ (o : List ℕ). o ++ header_bytes (slice_index c.counts-counts.result) c.args.wide) c.in_ok-out.ensures in
    header ∙ joined_start (header_bytes (slice_index c.counts-counts.result) c.args.wide) (table_at (slice_index c.counts-counts.result) c.args.wide c.args.rows.now)

pub push_rows-requires-clause-cells : goal.push_rows-requires-clause-cells
push_rows-requires-clause-cells c =
    let f : ℕ → ℕ = slice_index c.counts-counts.result in
    let same : f ≡ rows_in c.args.rows.now = λ i t. c.counts-counts.ensures.counts t i in
    let t = c.loop-table.table in
    let by = widths f c.args.wide t c.columns.result.now c.row_layout-layout.result c.columns.ensures.columns c.row_layout-layout.ensures in
    rw c.table.ensures (λ r row. row_fits c.args.rows.now c.args.wide (slice_index c.row_layout-layout.result.widths) t r c.counts-counts.ensures.rows c.requires (λ k h. by k h ∙ ap (λ (g : ℕ → ℕ). widths_of g c.args.wide t k) same) row)

pub loop-table-preserved : goal.loop-table-preserved
loop-table-preserved c =
    let f : ℕ → ℕ = slice_index c.counts-counts.result in
    let t = c.loop-table.table in
    let rows = rows_of c.args.rows.now t in
    let by = widths f c.args.wide t c.columns.result.now c.row_layout-layout.result c.columns.ensures.columns c.row_layout-layout.ensures in
    let agree = table_bytes_agree (slice_index c.row_layout-layout.result.widths) f c.args.wide t rows (λ k h. (c.counts-counts.ensures.rows.rows t k h).cells_count) by in
    let pushed : c.push_rows.new.out ≡ c.loop-table.out ++ table_bytes (slice_index c.row_layout-layout.result.widths) rows = c.in_ok-push_rows.ensures ∙ ap (λ (x : List (List ℕ)). c.loop-table.out ++ table_bytes (slice_index c.row_layout-layout.result.widths) x) c.table.ensures in
    joined_push (header_bytes f c.args.wide) c.loop-table.out c.push_rows.new.out (table_at f c.args.wide c.args.rows.now) t c.loop-table.invariant (pushed ∙ ap (λ (x : List ℕ). c.loop-table.out ++ x) agree)

pub returns : goal.returns
returns c =
    let f : ℕ → ℕ = slice_index c.counts-counts.result in
    let same : f ≡ rows_in c.args.rows.now = λ i t. c.counts-counts.ensures.counts t i in
    let all : c.loop-table.table ≡ 45 = omega arith in
    let is : c.loop-table.out ≡ header_bytes (rows_in c.args.rows.now) c.args.wide ++ body_bytes (rows_in c.args.rows.now) c.args.wide c.args.rows.now 45 =
    c.loop-table.invariant
    ∙ ap (λ (t : ℕ). header_bytes f c.args.wide ++ body_bytes f c.args.wide c.args.rows.now t) all
    ∙ ap (λ (g : ℕ → ℕ). header_bytes g c.args.wide ++ body_bytes g c.args.wide c.args.rows.now 45) same in
    rw is (encoded c.args.rows.now c.args.wide c.counts-counts.ensures.rows c.requires)
