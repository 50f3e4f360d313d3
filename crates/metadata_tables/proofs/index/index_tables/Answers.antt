use Rattle.std.proofs.Common.{◌≡◌, ◌-◌, ◌*◌, ◌≤◌, length, sym, ap, ◌∙◌, arith, refl}
use Rattle.std.specs.Prelude.{slice_index}
use Rattle.metadata_tables.specs.Stream.{row_count, heap_sizes}
use Rattle.metadata_tables.specs.Schema.{columns_of}
use Rattle.metadata_tables.specs.Layout.{IsLayoutOf, IsIndexOf}
use Rattle.metadata_tables.specs.declared.index.TableIndex.{TableIndex}
use Rattle.metadata_tables.proofs.Places.{table_start_none, indexed_more, row_fault, whole, layout_of, size_of}
use Rattle.metadata_tables.proofs.index.index_tables.Goals as goal
use Rattle.metadata_tables.proofs.index.index_tables.Goals.{After-from-size}

pub loop-table-init : goal.loop-table-init
loop-table-init c =
    let start = c.requires.header.start in
    let none = table_start_none c.args.stream.now in
    let header = c.requires.known.header in
    record {
      there = refl;
      begins = start ∙ sym none;
      within = omega (arith, start, header);
      each = λ u other before. absurd (omega arith);
    }

-- the table's row count and its layout are the stream's
rows : (c : After-from-size) → slice_index c.args.header.now.counts c.from.result ≡ row_count c.args.stream.now c.loop-table.table
rows c = c.requires.header.counts c.from.result ∙ ap (row_count c.args.stream.now) c.from.ensures

layout : (c : After-from-size) → IsLayoutOf (row_count c.args.stream.now) (heap_sizes c.args.stream.now) (columns_of c.loop-table.table) c.row_layout-layout.result
layout c = layout_of c.args.stream.now c.args.header.now c.loop-table.table c.row_layout-layout.result c.requires.header (rw c.columns.ensures.columns at c.row_layout-layout.ensures)

pub returns-then-length-room-clause-fault : goal.returns-then-length-room-clause-fault
returns-then-length-room-clause-fault c =
    let a = (goal.at.returns-then-length-room-clause-fault c).After-from-size in
    row_fault c.args.stream.now c.loop-table.table c.loop-table.start (slice_index c.args.header.now.counts c.from.result) c.from-size.result c.loop-table.indexes c.requires.known c.loop-table.invariant (rows a)
    (c.from-size.ensures ∙ size_of c.args.stream.now c.loop-table.table c.row_layout-layout.result (layout a)) c.if-length-room.true

pub loop-table-preserved : goal.loop-table-preserved
loop-table-preserved c =
    let a = (goal.at.loop-table-preserved c).After-from-size in
    let x : TableIndex = record { start = c.loop-table.start; rows = slice_index c.args.header.now.counts c.from.result; layout = c.row_layout-layout.result } in
    let is : IsIndexOf c.args.stream.now c.loop-table.table x = record { start = c.loop-table.invariant.begins; rows = rows a; layout = layout a } in
    let room : x.rows * x.layout.size ≤ length c.args.stream.now - c.loop-table.start = rw (← c.from-size.ensures) c.if-length-room.false in
    rw (c.from-size.ensures, c.from-in-loop-table.ensures) (indexed_more c.args.stream.now c.loop-table.table c.loop-table.start c.loop-table.indexes x c.loop-table.invariant c.loop-table-test.true is room)

pub returns-clause-indexed : goal.returns-clause-indexed
returns-clause-indexed c =
    let all : c.loop-table.table ≡ 45 = omega arith in
    let upto = rw all at c.loop-table.invariant in
    record {
      whole = whole c.args.stream.now c.requires.known (omega (arith, upto.begins, upto.within));
      there = upto.there;
      tables = λ t other inside. upto.each t other inside;
    }
