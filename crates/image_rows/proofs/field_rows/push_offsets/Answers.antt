use Rattle.std.proofs.Common.{◌≡◌, ◌∙◌, ap, sym, subst, ◌+◌, ◌<◌, ◌≤◌, ℕ, List, ◌∷◌, drop, drop_of_length-le, arith}
use Rattle.std.specs.Borrow.{Bor}
use Rattle.std.proofs.lemmas.List.{drop_more}
use Rattle.assembly_tree.specs.declared.members.Field.{Field}
use Rattle.image_members.specs.Pushing.{AddsRows}
use Rattle.image_rows.proofs.ClassRowLemmas.{lent_offset_rows, offset_short, lent_offsets, pushed_begin, pushed_few, pushed_next, pushed_on, pushed_end}
use Rattle.image_rows.proofs.field_rows.push_offsets.Goals as goal

pub loop-field-init : goal.loop-field-init
loop-field-init c = let count = c.requires.count in pushed_begin 0x10 1 lent_offset_rows offset_short c.args.rows.now c.args.fields.now c.requires.few (omega arith)

pub push_offset-requires : goal.push_offset-requires
push_offset-requires c =
    let xs = c.args.fields.now in
    let i = c.loop-field.field-index in
    let x = c.field-item.result in
    let here : drop i xs ≡ x ∷ drop (i + 1) xs = drop_more xs i x (omega arith) ∙ ap (λ (y : Bor Field). y ∷ drop (i + 1) xs) (sym c.field-item.is) in
    pushed_few 0x10 1 lent_offset_rows offset_short c.loop-field.row c.args.rows.now c.loop-field.rows xs (drop i xs) (drop (i + 1) xs) x here c.loop-field.invariant

pub overflow_add-row : goal.overflow_add-row
overflow_add-row c =
    let next = pushed_next 0x10 1 lent_offset_rows offset_short c.loop-field.row c.args.rows.now c.loop-field.rows c.args.fields.now (drop c.loop-field.field-index c.args.fields.now) c.loop-field.invariant in
    omega arith

pub loop-field-preserved : goal.loop-field-preserved
loop-field-preserved c =
    let xs = c.args.fields.now in
    let i = c.loop-field.field-index in
    let x = c.field-item.result in
    let here : drop i xs ≡ x ∷ drop (i + 1) xs = drop_more xs i x (omega arith) ∙ ap (λ (y : Bor Field). y ∷ drop (i + 1) xs) (sym c.field-item.is) in
    pushed_on 0x10 1 lent_offset_rows offset_short c.loop-field.row c.args.rows.now c.loop-field.rows c.push_offset.new.rows xs (drop i xs) (drop (i + 1) xs) x here c.loop-field.invariant c.in_ok-push_offset.ensures

pub returns : goal.returns
returns c =
    let xs = c.args.fields.now in
    let i = c.loop-field.field-index in
    subst (λ (new : List (List ℕ)). AddsRows 0x10 new c.args.rows.now c.loop-field.rows) (lent_offsets 1 xs)
    (pushed_end 0x10 1 lent_offset_rows offset_short c.loop-field.row c.args.rows.now c.loop-field.rows xs (drop i xs) (drop_of_length-le xs {i = i} (omega arith)) c.loop-field.invariant)
