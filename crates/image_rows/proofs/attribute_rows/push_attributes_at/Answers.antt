use Rattle.std.proofs.Common.{◌≡◌, ◌∙◌, ap, sym, ℕ, ◌+◌, ◌≤◌, List, [], ◌∷◌, drop, drop_of_length-le, map, arith}
use Rattle.std.proofs.lemmas.List.{drop_more}
use Rattle.image_rows.specs.AttributeRows.{attributes_in, attributes_at}
use Rattle.image_rows.specs.declared.attribute_rows.Attributed.{Attributed}
use Rattle.image_members.proofs.KindLemmas.{begin, front, go_on, end}
use Rattle.image_rows.proofs.AttributeLemmas.{attribute_kind}
use Rattle.image_rows.proofs.attribute_rows.push_attributes_at.Goals as goal

pub loop-table-init : goal.loop-table-init
loop-table-init c = begin attribute_kind c.args.refs.now c.args.rows.now ((λ (ts : List Attributed). attributes_at ts c.args.place) c.args.tables.now) c.requires.can

pub push_attributes_in-requires-clause-can : goal.push_attributes_in-requires-clause-can
push_attributes_in-requires-clause-can c =
    let xs = c.args.tables.now in
    let i = c.loop-table.table-index in
    let x = c.table-item.result in
    let here : drop i xs ≡ x ∷ drop (i + 1) xs = drop_more xs i x (omega arith) ∙ ap (λ (y : Attributed). y ∷ drop (i + 1) xs) (sym c.table-item.is) in
    front attribute_kind c.args.refs.now c.loop-table.refs c.args.rows.now c.loop-table.rows ((λ (ts : List Attributed). attributes_at ts c.args.place) xs) ((λ (ts : List Attributed). attributes_at ts c.args.place) (drop i xs)) (attributes_in c.args.place x) ((λ (ts : List Attributed). attributes_at ts c.args.place) (drop (i + 1) xs)) (ap ((λ (ts : List Attributed). attributes_at ts c.args.place)) here) c.loop-table.invariant

pub loop-table-preserved : goal.loop-table-preserved
loop-table-preserved c =
    let xs = c.args.tables.now in
    let i = c.loop-table.table-index in
    let x = c.table-item.result in
    let here : drop i xs ≡ x ∷ drop (i + 1) xs = drop_more xs i x (omega arith) ∙ ap (λ (y : Attributed). y ∷ drop (i + 1) xs) (sym c.table-item.is) in
    go_on attribute_kind c.args.refs.now c.loop-table.refs c.push_attributes_in.new.refs c.args.rows.now c.loop-table.rows c.push_attributes_in.new.rows ((λ (ts : List Attributed). attributes_at ts c.args.place) xs) ((λ (ts : List Attributed). attributes_at ts c.args.place) (drop i xs)) (attributes_in c.args.place x) ((λ (ts : List Attributed). attributes_at ts c.args.place) (drop (i + 1) xs)) (ap ((λ (ts : List Attributed). attributes_at ts c.args.place)) here)
    c.loop-table.invariant c.in_ok-push_attributes_in.ensures

pub returns : goal.returns
returns c =
    let xs = c.args.tables.now in
    let i = c.loop-table.table-index in
    end attribute_kind c.args.refs.now c.loop-table.refs c.args.rows.now c.loop-table.rows ((λ (ts : List Attributed). attributes_at ts c.args.place) xs) ((λ (ts : List Attributed). attributes_at ts c.args.place) (drop i xs)) (ap ((λ (ts : List Attributed). attributes_at ts c.args.place)) (drop_of_length-le xs {i = i} (omega arith))) c.loop-table.invariant
