use Rattle.std.proofs.Common.{◌≡◌, ◌∙◌, ap, sym, ℕ, ◌+◌, ◌≤◌, List, [], ◌∷◌, drop, drop_of_length-le, map, arith}
use Rattle.std.proofs.lemmas.List.{drop_more, map-append}
use Rattle.image_members.specs.GenericRows.{generic_of, generics_in, generics_at}
use Rattle.image_members.specs.Places.{lent}
use Rattle.image_members.specs.declared.generic_rows.Parametric.{Parametric}
use Rattle.image_members.proofs.PlaceLemmas.{filled_begin, filled_on, filled_end}
use Rattle.image_rows.proofs.generic_order.add_generics_at.Goals as goal

pub loop-table-init : goal.loop-table-init
loop-table-init c = filled_begin (lent c.args.all.now) (map generic_of (generics_at c.args.tables.now c.args.place))

pub loop-table-preserved : goal.loop-table-preserved
loop-table-preserved c =
    let xs = c.args.tables.now in
    let i = c.loop-table.table-index in
    let x = c.table-item.result in
    let k = c.args.place in
    let here : drop i xs ≡ x ∷ drop (i + 1) xs = drop_more xs i x (omega arith) ∙ ap (λ (y : Parametric). y ∷ drop (i + 1) xs) (sym c.table-item.is) in
    let of = λ (ts : List Parametric). map generic_of (generics_at ts k) in
    filled_on (lent c.args.all.now) (lent c.loop-table.all) (lent c.add_generics_in.new.all) (of xs) (of (drop i xs)) (map generic_of (generics_in k x)) (of (drop (i + 1) xs))
    (ap of here ∙ map-append generic_of (generics_in k x) (generics_at (drop (i + 1) xs) k)) c.loop-table.invariant c.in_ok-add_generics_in.ensures

pub returns : goal.returns
returns c =
    let xs = c.args.tables.now in
    let i = c.loop-table.table-index in
    let k = c.args.place in
    let of = λ (ts : List Parametric). map generic_of (generics_at ts k) in
    filled_end (lent c.args.all.now) (lent c.loop-table.all) (of xs) (of (drop i xs)) (ap of (drop_of_length-le xs {i = i} (omega arith))) c.loop-table.invariant
