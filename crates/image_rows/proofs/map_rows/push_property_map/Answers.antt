use Rattle.std.proofs.Common.{◌≡◌, ◌∙◌, ap, sym, subst, ℕ, ◌+◌, ◌<◌, ◌≤◌, ◌∷◌, drop, drop_of_length-le, length, arith}
use Rattle.std.proofs.lemmas.List.{drop_more}
use Rattle.metadata_tables.specs.Indexes.{run_cell}
use Rattle.image_rows.specs.MapRows.{run_rows, property_count}
use Rattle.image_members.specs.Pushing.{AddsRows}
use Rattle.image_members.specs.declared.classes.Class.{Class}
use Rattle.image_rows.proofs.MapRowLemmas.{property_map_cells, Mapped, mapped_begin, mapped_few, mapped_row, mapped_first, mapped_on, mapped_end}
use Rattle.image_rows.proofs.map_rows.push_property_map.Goals as goal

pub loop-class-init : goal.loop-class-init
loop-class-init c = mapped_begin 0x15 property_count c.args.properties c.args.rows.now c.args.classes.now c.requires.count c.requires.few c.requires.runs

pub push_run-requires-clause-few : goal.push_run-requires-clause-few
push_run-requires-clause-few c =
    let xs = c.args.classes.now in
    let i = c.loop-class.class-index in
    let x = c.class-item.result in
    let here : drop i xs ≡ x ∷ drop (i + 1) xs = drop_more xs i x (omega arith) ∙ ap (λ (y : Class). y ∷ drop (i + 1) xs) (sym c.class-item.is) in
    mapped_few 0x15 property_count c.args.properties c.loop-class.row c.loop-class.first c.args.rows.now c.loop-class.rows xs (drop i xs) (drop (i + 1) xs) x here c.loop-class.invariant

pub push_run-requires-clause-cells : goal.push_run-requires-clause-cells
push_run-requires-clause-cells c = property_map_cells c.row_of_columns.ensures c.loop-class.row c.run_cell.result

pub overflow_add-row : goal.overflow_add-row
overflow_add-row c =
    let xs = c.args.classes.now in
    let i = c.loop-class.class-index in
    let x = c.class-item.result in
    let here : drop i xs ≡ x ∷ drop (i + 1) xs = drop_more xs i x (omega arith) ∙ ap (λ (y : Class). y ∷ drop (i + 1) xs) (sym c.class-item.is) in
    let next = mapped_row 0x15 property_count c.args.properties c.loop-class.row c.loop-class.first c.args.rows.now c.loop-class.rows xs (drop i xs) (drop (i + 1) xs) x here c.loop-class.invariant in
    omega arith

pub loop-class-preserved : goal.loop-class-preserved
loop-class-preserved c =
    let xs = c.args.classes.now in
    let i = c.loop-class.class-index in
    let x = c.class-item.result in
    let here : drop i xs ≡ x ∷ drop (i + 1) xs = drop_more xs i x (omega arith) ∙ ap (λ (y : Class). y ∷ drop (i + 1) xs) (sym c.class-item.is) in
    let row = c.loop-class.row in
    let first = c.loop-class.first in
    let from = c.loop-class.rows in
    let to = c.push_run.new.rows in
    let one : AddsRows 0x15 (run_rows row (run_cell c.args.properties first) (property_count x)) from to =
    subst (λ (n : ℕ). AddsRows 0x15 (run_rows row (run_cell c.args.properties first) n) from to) c.len-count.ensures
    (subst (λ (n : ℕ). AddsRows 0x15 (run_rows row n c.len-count.result) from to) c.run_cell.ensures c.in_ok-push_run.ensures) in
    subst (λ (n : ℕ). Mapped 0x15 property_count c.args.properties (row + 1) (first + n) c.args.rows.now to xs (drop (i + 1) xs)) (sym c.len-count.ensures)
    (mapped_on 0x15 property_count c.args.properties c.loop-class.row c.loop-class.first c.args.rows.now c.loop-class.rows xs (drop i xs) (drop (i + 1) xs) x here c.loop-class.invariant to one)

pub returns : goal.returns
returns c =
    let xs = c.args.classes.now in
    let i = c.loop-class.class-index in
    mapped_end 0x15 property_count c.args.properties c.loop-class.row c.loop-class.first c.args.rows.now c.loop-class.rows xs (drop i xs) (drop_of_length-le xs {i = i} (omega arith)) c.loop-class.invariant
