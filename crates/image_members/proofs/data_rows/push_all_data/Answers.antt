use Rattle.std.proofs.Common.{◌≡◌, ◌∙◌, ap, sym, ◌+◌, ◌<◌, ◌≤◌, [], ◌∷◌, drop, drop_of_length-le, arith}
use Rattle.std.specs.Borrow.{Bor}
use Rattle.std.proofs.lemmas.List.{drop_more}
use Rattle.assembly_tree.specs.declared.members.Field.{Field}
use Rattle.image_members.proofs.DataLemmas.{data_begin, data_few, data_next, data_long, data_on, data_end}
use Rattle.image_members.proofs.data_rows.push_all_data.Goals as goal

pub loop-field-init : goal.loop-field-init
loop-field-init c = data_begin c.args.code.now c.args.rows.now c.args.fields.now c.requires.count c.requires.few c.requires.long

pub push_data-requires-clause-few : goal.push_data-requires-clause-few
push_data-requires-clause-few c =
    let xs = c.args.fields.now in
    let i = c.loop-field.field-index in
    let x = c.field-item.result in
    let here : drop i xs ≡ x ∷ drop (i + 1) xs = drop_more xs i x (omega arith) ∙ ap (λ (y : Bor Field). y ∷ drop (i + 1) xs) (sym c.field-item.is) in
    data_few c.loop-field.row c.args.code.now c.loop-field.code c.args.rows.now c.loop-field.rows xs (drop i xs) (drop (i + 1) xs) x here c.loop-field.invariant

pub push_data-requires-clause-long : goal.push_data-requires-clause-long
push_data-requires-clause-long c =
    let xs = c.args.fields.now in
    let i = c.loop-field.field-index in
    let x = c.field-item.result in
    let here : drop i xs ≡ x ∷ drop (i + 1) xs = drop_more xs i x (omega arith) ∙ ap (λ (y : Bor Field). y ∷ drop (i + 1) xs) (sym c.field-item.is) in
    data_long c.loop-field.row c.args.code.now c.loop-field.code c.args.rows.now c.loop-field.rows xs (drop i xs) (drop (i + 1) xs) x here c.loop-field.invariant

pub overflow_add-row : goal.overflow_add-row
overflow_add-row c =
    let xs = c.args.fields.now in
    let i = c.loop-field.field-index in
    let x = c.field-item.result in
    let here : drop i xs ≡ x ∷ drop (i + 1) xs = drop_more xs i x (omega arith) ∙ ap (λ (y : Bor Field). y ∷ drop (i + 1) xs) (sym c.field-item.is) in
    let next = data_next c.loop-field.row c.args.code.now c.loop-field.code c.args.rows.now c.loop-field.rows xs (drop i xs) (drop (i + 1) xs) x here c.loop-field.invariant in
    omega arith

pub loop-field-preserved : goal.loop-field-preserved
loop-field-preserved c =
    let xs = c.args.fields.now in
    let i = c.loop-field.field-index in
    let x = c.field-item.result in
    let here : drop i xs ≡ x ∷ drop (i + 1) xs = drop_more xs i x (omega arith) ∙ ap (λ (y : Bor Field). y ∷ drop (i + 1) xs) (sym c.field-item.is) in
    data_on c.loop-field.row c.args.code.now c.loop-field.code c.args.rows.now c.loop-field.rows xs (drop i xs) (drop (i + 1) xs) x here c.loop-field.invariant c.push_data.new.code c.push_data.new.rows c.in_ok-push_data.ensures

pub returns : goal.returns
returns c =
    let xs = c.args.fields.now in
    let i = c.loop-field.field-index in
    data_end c.loop-field.row c.args.code.now c.loop-field.code c.args.rows.now c.loop-field.rows xs (drop i xs) (drop_of_length-le xs {i = i} (omega arith)) c.loop-field.invariant
