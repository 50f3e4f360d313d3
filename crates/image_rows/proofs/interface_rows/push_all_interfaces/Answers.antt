use Rattle.std.proofs.Common.{◌≡◌, ◌∙◌, ap, sym, subst, ℕ, ◌+◌, ◌<◌, ◌≤◌, List, [], ◌∷◌, drop, drop_of_length-le, arith}
use Rattle.std.proofs.lemmas.List.{drop_more}
use Rattle.image_members.specs.declared.classes.Class.{Class}
use Rattle.image_rows.proofs.InterfaceLemmas.{interfaces_begin, interface_row, interfaces_can, interfaces_on, interfaces_end}
use Rattle.image_rows.proofs.interface_rows.push_all_interfaces.Goals as goal

pub loop-class-init : goal.loop-class-init
loop-class-init c = interfaces_begin c.args.refs.now c.args.rows.now c.args.classes.now c.requires.count c.requires.can

pub push_interfaces-requires : goal.push_interfaces-requires
push_interfaces-requires c =
    let xs = c.args.classes.now in
    let i = c.loop-class.class-index in
    let x = c.class-item.result in
    let here : drop i xs ≡ x ∷ drop (i + 1) xs = drop_more xs i x (omega arith) ∙ ap (λ (y : Class). y ∷ drop (i + 1) xs) (sym c.class-item.is) in
    interfaces_can c.loop-class.row c.args.refs.now c.loop-class.refs c.args.rows.now c.loop-class.rows xs (drop i xs) (drop (i + 1) xs) x here c.loop-class.invariant c.as_slice.result.now c.as_slice.ensures

pub overflow_add-row : goal.overflow_add-row
overflow_add-row c =
    let xs = c.args.classes.now in
    let i = c.loop-class.class-index in
    let x = c.class-item.result in
    let here : drop i xs ≡ x ∷ drop (i + 1) xs = drop_more xs i x (omega arith) ∙ ap (λ (y : Class). y ∷ drop (i + 1) xs) (sym c.class-item.is) in
    let few = interface_row c.loop-class.row c.args.refs.now c.loop-class.refs c.args.rows.now c.loop-class.rows xs (drop i xs) (drop (i + 1) xs) x here c.loop-class.invariant in
    omega arith

pub loop-class-preserved : goal.loop-class-preserved
loop-class-preserved c =
    let xs = c.args.classes.now in
    let i = c.loop-class.class-index in
    let x = c.class-item.result in
    let here : drop i xs ≡ x ∷ drop (i + 1) xs = drop_more xs i x (omega arith) ∙ ap (λ (y : Class). y ∷ drop (i + 1) xs) (sym c.class-item.is) in
    interfaces_on c.loop-class.row c.args.refs.now c.loop-class.refs c.args.rows.now c.loop-class.rows xs (drop i xs) (drop (i + 1) xs) x here c.loop-class.invariant c.as_slice.result.now c.as_slice.ensures c.push_interfaces.new.refs c.push_interfaces.new.rows c.in_ok-push_interfaces.ensures

pub returns : goal.returns
returns c =
    let xs = c.args.classes.now in
    let i = c.loop-class.class-index in
    interfaces_end c.loop-class.row c.args.refs.now c.loop-class.refs c.args.rows.now c.loop-class.rows xs (drop i xs) (drop_of_length-le xs {i = i} (omega arith)) c.loop-class.invariant
