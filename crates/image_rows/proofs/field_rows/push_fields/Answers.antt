use Rattle.std.proofs.Common.{◌≡◌, ◌∙◌, ap, sym, ◌+◌, ◌<◌, ◌≤◌, ◌∷◌, drop, drop_of_length-le, length, arith}
use Rattle.std.specs.Borrow.{Bor}
use Rattle.std.proofs.lemmas.List.{drop_more}
use Rattle.assembly_tree.specs.declared.members.Field.{Field}
use Rattle.image_rows.proofs.FieldLemmas.{fields_begin, fields_within, fields_few, fields_on, fields_end}
use Rattle.image_rows.proofs.field_rows.push_fields.Goals as goal

pub loop-field-init : goal.loop-field-init
loop-field-init c = fields_begin c.args.refs.now c.args.rows.now c.args.fields.now c.requires.declared c.requires.few

pub at-cells-requires : goal.at-cells-requires
at-cells-requires c =
    let xs = c.args.fields.now in
    let i = c.loop-field.field-index in
    let x = c.field-item.result in
    let here : drop i xs ≡ x ∷ drop (i + 1) xs = drop_more xs i x (omega arith) ∙ ap (λ (y : Bor Field). y ∷ drop (i + 1) xs) (sym c.field-item.is) in
    fields_within c.args.refs.now c.args.rows.now c.loop-field.rows c.loop-field.place xs (drop i xs) (drop (i + 1) xs) x here c.loop-field.invariant

pub push_field-requires : goal.push_field-requires
push_field-requires c =
    let xs = c.args.fields.now in
    let i = c.loop-field.field-index in
    let x = c.field-item.result in
    let here : drop i xs ≡ x ∷ drop (i + 1) xs = drop_more xs i x (omega arith) ∙ ap (λ (y : Bor Field). y ∷ drop (i + 1) xs) (sym c.field-item.is) in
    fields_few c.args.refs.now c.args.rows.now c.loop-field.rows c.loop-field.place xs (drop i xs) (drop (i + 1) xs) x here c.loop-field.invariant

pub overflow_add-place : goal.overflow_add-place
overflow_add-place c =
    let within = c.loop-field.invariant.within in
    let bound = c.loop-field.invariant.bound in
    omega arith

pub loop-field-preserved : goal.loop-field-preserved
loop-field-preserved c =
    let xs = c.args.fields.now in
    let i = c.loop-field.field-index in
    let x = c.field-item.result in
    let here : drop i xs ≡ x ∷ drop (i + 1) xs = drop_more xs i x (omega arith) ∙ ap (λ (y : Bor Field). y ∷ drop (i + 1) xs) (sym c.field-item.is) in
    fields_on c.args.refs.now c.args.rows.now c.loop-field.rows c.loop-field.place xs (drop i xs) (drop (i + 1) xs) x here c.loop-field.invariant c.at-cells.result c.push_field.new.rows c.at-cells.ensures c.in_ok-push_field.ensures

pub returns : goal.returns
returns c =
    let xs = c.args.fields.now in
    let i = c.loop-field.field-index in
    fields_end c.args.refs.now c.args.rows.now c.loop-field.rows c.loop-field.place xs (drop i xs) (drop_of_length-le xs {i = i} (omega arith)) c.loop-field.invariant
