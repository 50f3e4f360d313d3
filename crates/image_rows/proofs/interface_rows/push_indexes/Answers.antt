use Rattle.std.proofs.Common.{◌≡◌, ◌∙◌, ap, sym, ℕ, ◌+◌, ◌<◌, ◌≤◌, ◌∷◌, drop, get_or, drop_of_length-le, arith}
use Rattle.std.proofs.lemmas.List.{drop_more}
use Rattle.image_rows.proofs.InterfaceLemmas.{interface_cells, rows_begin, rows_few, rows_on, rows_end}
use Rattle.image_rows.proofs.interface_rows.push_indexes.Goals as goal

pub loop-index-init : goal.loop-index-init
loop-index-init c = rows_begin c.args.row c.args.rows.now c.args.indexes.now c.requires

pub push-requires-clause-room : goal.push-requires-clause-room
push-requires-clause-room c =
    let xs = c.args.indexes.now in
    let i = c.loop-index.index-index in
    let x = get_or xs i 0 in
    let here : drop i xs ≡ x ∷ drop (i + 1) xs = drop_more xs i 0 (omega arith) in
    rows_few c.args.row c.args.rows.now c.loop-index.rows xs (drop i xs) (drop (i + 1) xs) x here c.loop-index.invariant

pub push-requires-clause-cells : goal.push-requires-clause-cells
push-requires-clause-cells c = interface_cells c.row_of_columns.ensures c.args.row (get_or c.args.indexes.now c.loop-index.index-index 0)

pub loop-index-preserved : goal.loop-index-preserved
loop-index-preserved c =
    let xs = c.args.indexes.now in
    let i = c.loop-index.index-index in
    let x = get_or xs i 0 in
    let here : drop i xs ≡ x ∷ drop (i + 1) xs = drop_more xs i 0 (omega arith) in
    rows_on c.args.row c.args.rows.now c.loop-index.rows xs (drop i xs) (drop (i + 1) xs) x here c.loop-index.invariant c.push.new.self c.in_ok-push.ensures.added

pub returns : goal.returns
returns c =
    let xs = c.args.indexes.now in
    let i = c.loop-index.index-index in
    rows_end c.args.row c.args.rows.now c.loop-index.rows xs (drop i xs) (drop_of_length-le xs {i = i} (omega arith)) c.loop-index.invariant
