use Rattle.std.proofs.Common.{◌≡◌, ◌∙◌, ap, sym, ℕ, ◌+◌, ◌≤◌, List, [], ◌∷◌, drop, drop_of_length-le, map, arith}
use Rattle.std.proofs.lemmas.List.{drop_more}
use Rattle.image_members.specs.GenericRows.{generics_in, generics_at}
use Rattle.image_members.specs.declared.generic_rows.Parametric.{Parametric}
use Rattle.image_members.proofs.KindLemmas.{begin, front, go_on, end}
use Rattle.image_members.proofs.GenericLemmas.{generic_kind}
use Rattle.image_members.proofs.generic_rows.push_generics_at.Goals as goal

pub loop-table-init : goal.loop-table-init
loop-table-init c = begin generic_kind c.args.refs.now c.args.rows.now ((λ (ts : List Parametric). generics_at ts c.args.place) c.args.tables.now) c.requires.can

pub push_generics_in-requires-clause-can : goal.push_generics_in-requires-clause-can
push_generics_in-requires-clause-can c =
    let xs = c.args.tables.now in
    let i = c.loop-table.table-index in
    let x = c.table-item.result in
    let here : drop i xs ≡ x ∷ drop (i + 1) xs = drop_more xs i x (omega arith) ∙ ap (λ (y : Parametric). y ∷ drop (i + 1) xs) (sym c.table-item.is) in
    front generic_kind c.args.refs.now c.loop-table.refs c.args.rows.now c.loop-table.rows ((λ (ts : List Parametric). generics_at ts c.args.place) xs) ((λ (ts : List Parametric). generics_at ts c.args.place) (drop i xs)) (generics_in c.args.place x) ((λ (ts : List Parametric). generics_at ts c.args.place) (drop (i + 1) xs)) (ap ((λ (ts : List Parametric). generics_at ts c.args.place)) here) c.loop-table.invariant

pub loop-table-preserved : goal.loop-table-preserved
loop-table-preserved c =
    let xs = c.args.tables.now in
    let i = c.loop-table.table-index in
    let x = c.table-item.result in
    let here : drop i xs ≡ x ∷ drop (i + 1) xs = drop_more xs i x (omega arith) ∙ ap (λ (y : Parametric). y ∷ drop (i + 1) xs) (sym c.table-item.is) in
    go_on generic_kind c.args.refs.now c.loop-table.refs c.push_generics_in.new.refs c.args.rows.now c.loop-table.rows c.push_generics_in.new.rows ((λ (ts : List Parametric). generics_at ts c.args.place) xs) ((λ (ts : List Parametric). generics_at ts c.args.place) (drop i xs)) (generics_in c.args.place x) ((λ (ts : List Parametric). generics_at ts c.args.place) (drop (i + 1) xs)) (ap ((λ (ts : List Parametric). generics_at ts c.args.place)) here)
    c.loop-table.invariant c.in_ok-push_generics_in.ensures

pub returns : goal.returns
returns c =
    let xs = c.args.tables.now in
    let i = c.loop-table.table-index in
    end generic_kind c.args.refs.now c.loop-table.refs c.args.rows.now c.loop-table.rows ((λ (ts : List Parametric). generics_at ts c.args.place) xs) ((λ (ts : List Parametric). generics_at ts c.args.place) (drop i xs)) (ap ((λ (ts : List Parametric). generics_at ts c.args.place)) (drop_of_length-le xs {i = i} (omega arith))) c.loop-table.invariant
