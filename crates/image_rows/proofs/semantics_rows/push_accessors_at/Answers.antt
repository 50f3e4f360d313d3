use Rattle.std.proofs.Common.{◌≡◌, ◌∙◌, ap, sym, ℕ, ◌+◌, ◌≤◌, List, [], ◌∷◌, drop, drop_of_length-le, map, arith}
use Rattle.std.proofs.lemmas.List.{drop_more}
use Rattle.image_rows.specs.SemanticsRows.{accessors_in, accessors_at}
use Rattle.image_rows.specs.declared.semantics_rows.Accessing.{Accessing}
use Rattle.image_rows.proofs.AccessorLemmas.{begin, front, go_on, end}
use Rattle.image_rows.proofs.semantics_rows.push_accessors_at.Goals as goal

pub loop-table-init : goal.loop-table-init
loop-table-init c = begin c.args.rows.now ((λ (ts : List Accessing). accessors_at ts c.args.place) c.args.tables.now) c.requires.can

pub push_accessors_in-requires-clause-can : goal.push_accessors_in-requires-clause-can
push_accessors_in-requires-clause-can c =
    let xs = c.args.tables.now in
    let i = c.loop-table.table-index in
    let x = c.table-item.result in
    let here : drop i xs ≡ x ∷ drop (i + 1) xs = drop_more xs i x (omega arith) ∙ ap (λ (y : Accessing). y ∷ drop (i + 1) xs) (sym c.table-item.is) in
    front c.args.rows.now c.loop-table.rows ((λ (ts : List Accessing). accessors_at ts c.args.place) xs) ((λ (ts : List Accessing). accessors_at ts c.args.place) (drop i xs)) (accessors_in c.args.place x) ((λ (ts : List Accessing). accessors_at ts c.args.place) (drop (i + 1) xs)) (ap ((λ (ts : List Accessing). accessors_at ts c.args.place)) here) c.loop-table.invariant

pub loop-table-preserved : goal.loop-table-preserved
loop-table-preserved c =
    let xs = c.args.tables.now in
    let i = c.loop-table.table-index in
    let x = c.table-item.result in
    let here : drop i xs ≡ x ∷ drop (i + 1) xs = drop_more xs i x (omega arith) ∙ ap (λ (y : Accessing). y ∷ drop (i + 1) xs) (sym c.table-item.is) in
    go_on c.args.rows.now c.loop-table.rows c.push_accessors_in.new.rows ((λ (ts : List Accessing). accessors_at ts c.args.place) xs) ((λ (ts : List Accessing). accessors_at ts c.args.place) (drop i xs)) (accessors_in c.args.place x) ((λ (ts : List Accessing). accessors_at ts c.args.place) (drop (i + 1) xs)) (ap ((λ (ts : List Accessing). accessors_at ts c.args.place)) here) c.loop-table.invariant c.in_ok-push_accessors_in.ensures

pub returns : goal.returns
returns c =
    let xs = c.args.tables.now in
    let i = c.loop-table.table-index in
    end c.args.rows.now c.loop-table.rows ((λ (ts : List Accessing). accessors_at ts c.args.place) xs) ((λ (ts : List Accessing). accessors_at ts c.args.place) (drop i xs)) (ap ((λ (ts : List Accessing). accessors_at ts c.args.place)) (drop_of_length-le xs {i = i} (omega arith))) c.loop-table.invariant
