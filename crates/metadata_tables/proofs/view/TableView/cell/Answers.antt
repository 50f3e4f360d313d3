use Rattle.std.proofs.Common.{ℕ, ◌+◌, ◌-◌, ◌*◌, ◌<◌, ◌≤◌, List, [], length, ap, ◌∙◌, arith, refl}
use Rattle.std.specs.Prelude.{slice_index, slice_index_or}
use Rattle.metadata_tables.specs.Schema.{columns_of}
use Rattle.metadata_tables.specs.Stream.{IsRow, cell}
use Rattle.metadata_tables.specs.Layout.{IsIndexOf}
use Rattle.metadata_tables.specs.declared.index.TableIndex.{TableIndex}
use Rattle.metadata_tables.proofs.Table.{columns_few}
use Rattle.metadata_tables.proofs.Places.{row_at, table_below, cell_room, cell_by_index, index_width}
use Rattle.metadata_tables.proofs.Widths.{column_width_kind}
use Rattle.metadata_tables.proofs.view.TableView.cell.Goals as goal
use Rattle.metadata_tables.proofs.view.TableView.cell.Goals.{After-from-2}

pub bounds-indexes-from : goal.bounds-indexes-from
bounds-indexes-from c =
    table_below c.self.inside.stream.now c.from.result c.args.row c.self.invariant.whole (row_at _ _ _ _ c.args.row c.self.view_is c.from.ensures c.requires.row)

-- the row is in the stream that is viewed
is_row : (c : After-from-2) → IsRow c.self.inside.stream.now c.from.result c.args.row
is_row c = row_at _ _ _ _ c.args.row c.self.view_is c.from.ensures c.requires.row

abbrev index : After-from-2 → TableIndex
index c = slice_index_or c.self.inside.indexes c.from.result (record { start = 0; rows = 0; layout = record { size = 0; places = []; widths = [] } })

is_index : (c : After-from-2) → IsIndexOf c.self.inside.stream.now c.from.result (index c)
is_index c =
    c.self.invariant.tables c.from.result _ (table_below c.self.inside.stream.now c.from.result c.args.row c.self.invariant.whole (is_row c))

column : (c : After-from-2) → c.from-column.result < length (columns_of c.from.result)
column c = rw (c.from-column.ensures, c.from.ensures) c.requires.column

-- the whole place, from which each part follows
room : (c : After-from-2) → (index c).start + (c.args.row - 1) * c.from-2.result + slice_index (index c).layout.places c.from-column.result + slice_index (index c).layout.widths c.from-column.result ≤ length c.self.inside.stream.now
room c =
    cell_room c.self.inside.stream.now c.from.result c.args.row c.from-column.result c.from-2.result _ (index c) c.self.invariant.whole (is_row c) (column c) (is_index c) c.from-2.ensures refl

pub overflow_mul-before : goal.overflow_mul-before
overflow_mul-before c =
    let r = room (goal.at.overflow_mul-before c).After-from-2 in omega (arith, r, c.self.told)

pub overflow_add-at : goal.overflow_add-at
overflow_add-at c =
    let r = room (goal.at.overflow_add-at c).After-from-2 in omega (arith, r, c.self.told)

pub bounds-index-column : goal.bounds-index-column
bounds-index-column c =
    let h = column (goal.at.bounds-index-column c).After-from-2 in
    omega (arith, h, columns_few c.from.result)

pub overflow_add-at-2 : goal.overflow_add-at-2
overflow_add-at-2 c =
    let r = room (goal.at.overflow_add-at-2 c).After-from-2 in
    omega (arith, r, c.from-3.ensures, c.self.told)

pub bounds-index-column-2 : goal.bounds-index-column-2
bounds-index-column-2 c =
    let h = column (goal.at.bounds-index-column-2 c).After-from-2 in
    omega (arith, h, columns_few c.from.result)

pub number_at-requires-clause-width : goal.number_at-requires-clause-width
number_at-requires-clause-width c =
    let a = (goal.at.number_at-requires-clause-width c).After-from-2 in
    let e = index_width c.self.inside.stream.now c.from.result c.from-column.result (index a) (is_index a) (column a) in
    rw e (column_width_kind c.self.inside.stream.now c.from.result c.from-column.result (column a))

pub number_at-requires-clause-room : goal.number_at-requires-clause-room
number_at-requires-clause-room c =
    let r = room (goal.at.number_at-requires-clause-room c).After-from-2 in
    omega (arith, r, c.from-3.ensures)

pub returns : goal.returns
returns c =
    let a = (goal.at.returns c).After-from-2 in
    let e = cell_by_index c.self.inside.stream.now c.from.result c.args.row c.from-column.result c.from-2.result c.from-3.result (index a) (column a) (is_index a) c.from-2.ensures c.from-3.ensures in
    c.number_at.ensures ∙ e ∙ ap (λ (s : List ℕ). cell s c.from.result c.args.row c.from-column.result) c.self.view_is
    ∙ ap (λ (t : ℕ). cell c.args.self.now t c.args.row c.from-column.result) c.from.ensures
    ∙ ap (λ (k : ℕ). cell c.args.self.now c.args.table c.args.row k) c.from-column.ensures
