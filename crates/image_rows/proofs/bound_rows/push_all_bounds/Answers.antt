use Rattle.std.proofs.Common.{◌≡◌, ◌∙◌, ap, sym, ◌+◌, ◌<◌, ◌≤◌, ◌∷◌, drop, drop_of_length-le, arith}
use Rattle.std.specs.Borrow.{Bor}
use Rattle.std.proofs.lemmas.List.{drop_more}
use Rattle.assembly_tree.specs.declared.members.Generic.{Generic}
use Rattle.image_rows.proofs.BoundLemmas.{bounds_begin, bounds_can, bound_row, bounds_on, bounds_end}
use Rattle.image_rows.proofs.bound_rows.push_all_bounds.Goals as goal

pub loop-generic-init : goal.loop-generic-init
loop-generic-init c = bounds_begin c.args.refs.now c.args.rows.now c.args.generics.now c.requires.count c.requires.can

pub push_bounds-requires : goal.push_bounds-requires
push_bounds-requires c =
    let xs = c.args.generics.now in
    let i = c.loop-generic.generic-index in
    let x = c.generic-item.result in
    let here : drop i xs ≡ x ∷ drop (i + 1) xs = drop_more xs i x (omega arith) ∙ ap (λ (y : Bor Generic). y ∷ drop (i + 1) xs) (sym c.generic-item.is) in
    bounds_can c.loop-generic.row c.args.refs.now c.loop-generic.refs c.args.rows.now c.loop-generic.rows xs (drop i xs) (drop (i + 1) xs) x here c.loop-generic.invariant c.as_slice.result.now c.as_slice.ensures

pub overflow_add-row : goal.overflow_add-row
overflow_add-row c =
    let xs = c.args.generics.now in
    let i = c.loop-generic.generic-index in
    let x = c.generic-item.result in
    let here : drop i xs ≡ x ∷ drop (i + 1) xs = drop_more xs i x (omega arith) ∙ ap (λ (y : Bor Generic). y ∷ drop (i + 1) xs) (sym c.generic-item.is) in
    let few = bound_row c.loop-generic.row c.args.refs.now c.loop-generic.refs c.args.rows.now c.loop-generic.rows xs (drop i xs) (drop (i + 1) xs) x here c.loop-generic.invariant in
    omega arith

pub loop-generic-preserved : goal.loop-generic-preserved
loop-generic-preserved c =
    let xs = c.args.generics.now in
    let i = c.loop-generic.generic-index in
    let x = c.generic-item.result in
    let here : drop i xs ≡ x ∷ drop (i + 1) xs = drop_more xs i x (omega arith) ∙ ap (λ (y : Bor Generic). y ∷ drop (i + 1) xs) (sym c.generic-item.is) in
    bounds_on c.loop-generic.row c.args.refs.now c.loop-generic.refs c.args.rows.now c.loop-generic.rows xs (drop i xs) (drop (i + 1) xs) x here c.loop-generic.invariant c.as_slice.result.now c.as_slice.ensures c.push_bounds.new.refs c.push_bounds.new.rows c.in_ok-push_bounds.ensures

pub returns : goal.returns
returns c =
    let xs = c.args.generics.now in
    let i = c.loop-generic.generic-index in
    bounds_end c.loop-generic.row c.args.refs.now c.loop-generic.refs c.args.rows.now c.loop-generic.rows xs (drop i xs) (drop_of_length-le xs {i = i} (omega arith)) c.loop-generic.invariant
