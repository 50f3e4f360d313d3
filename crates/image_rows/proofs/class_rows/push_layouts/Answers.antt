use Rattle.std.proofs.Common.{◌≡◌, ◌∙◌, ap, sym, ◌+◌, ◌<◌, ◌≤◌, ◌∷◌, drop, drop_of_length-le, arith}
use Rattle.std.proofs.lemmas.List.{drop_more}
use Rattle.image_rows.specs.ClassRows.{layout_rows}
use Rattle.image_members.specs.declared.classes.Class.{Class}
use Rattle.image_rows.proofs.ClassRowLemmas.{pushed_begin, pushed_few, pushed_next, pushed_on, pushed_end, layout_short}
use Rattle.image_rows.proofs.class_rows.push_layouts.Goals as goal

pub loop-class-init : goal.loop-class-init
loop-class-init c = let count = c.requires.count in pushed_begin 0x0F 2 layout_rows layout_short c.args.rows.now c.args.classes.now c.requires.few (omega arith)

pub push_layout-requires : goal.push_layout-requires
push_layout-requires c =
    let xs = c.args.classes.now in
    let i = c.loop-class.class-index in
    let x = c.class-item.result in
    let here : drop i xs ≡ x ∷ drop (i + 1) xs = drop_more xs i x (omega arith) ∙ ap (λ (y : Class). y ∷ drop (i + 1) xs) (sym c.class-item.is) in
    pushed_few 0x0F 2 layout_rows layout_short c.loop-class.row c.args.rows.now c.loop-class.rows xs (drop i xs) (drop (i + 1) xs) x here c.loop-class.invariant

pub overflow_add-row : goal.overflow_add-row
overflow_add-row c =
    let next = pushed_next 0x0F 2 layout_rows layout_short c.loop-class.row c.args.rows.now c.loop-class.rows c.args.classes.now (drop c.loop-class.class-index c.args.classes.now) c.loop-class.invariant in
    omega arith

pub loop-class-preserved : goal.loop-class-preserved
loop-class-preserved c =
    let xs = c.args.classes.now in
    let i = c.loop-class.class-index in
    let x = c.class-item.result in
    let here : drop i xs ≡ x ∷ drop (i + 1) xs = drop_more xs i x (omega arith) ∙ ap (λ (y : Class). y ∷ drop (i + 1) xs) (sym c.class-item.is) in
    pushed_on 0x0F 2 layout_rows layout_short c.loop-class.row c.args.rows.now c.loop-class.rows c.push_layout.new.rows xs (drop i xs) (drop (i + 1) xs) x here c.loop-class.invariant c.in_ok-push_layout.ensures

pub returns : goal.returns
returns c =
    let xs = c.args.classes.now in
    let i = c.loop-class.class-index in
    pushed_end 0x0F 2 layout_rows layout_short c.loop-class.row c.args.rows.now c.loop-class.rows xs (drop i xs) (drop_of_length-le xs {i = i} (omega arith)) c.loop-class.invariant
