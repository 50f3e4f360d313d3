use Rattle.std.proofs.Common.{◌≡◌, ◌∙◌, ap, sym, ℕ, ◌+◌, ◌≤◌, List, [], ◌∷◌, drop, drop_of_length-le, map, arith}
use Rattle.std.proofs.lemmas.List.{drop_more}
use Rattle.type_terms.specs.declared.term.Owner.{Owner}
use Rattle.image_members.specs.GenericRows.{bounds_with}
use Rattle.image_members.proofs.KindLemmas.{begin, front, go_on, end}
use Rattle.image_rows.proofs.BoundLemmas.{bound_kind}
use Rattle.image_rows.proofs.bound_rows.push_bounds.Goals as goal

pub loop-bound-init : goal.loop-bound-init
loop-bound-init c = begin bound_kind c.args.refs.now c.args.rows.now (bounds_with c.args.row c.args.bounds.now) c.requires

pub push_bound-requires : goal.push_bound-requires
push_bound-requires c =
    let xs = c.args.bounds.now in
    let i = c.loop-bound.bound-index in
    let x = c.bound-item.result in
    let here : drop i xs ≡ x ∷ drop (i + 1) xs = drop_more xs i x (omega arith) ∙ ap (λ (y : Owner). y ∷ drop (i + 1) xs) (sym c.bound-item.is) in
    front bound_kind c.args.refs.now c.loop-bound.refs c.args.rows.now c.loop-bound.rows (bounds_with c.args.row xs) (bounds_with c.args.row (drop i xs)) (bounds_with c.args.row (x ∷ [])) (bounds_with c.args.row (drop (i + 1) xs)) (ap (bounds_with c.args.row) here) c.loop-bound.invariant

pub loop-bound-preserved : goal.loop-bound-preserved
loop-bound-preserved c =
    let xs = c.args.bounds.now in
    let i = c.loop-bound.bound-index in
    let x = c.bound-item.result in
    let here : drop i xs ≡ x ∷ drop (i + 1) xs = drop_more xs i x (omega arith) ∙ ap (λ (y : Owner). y ∷ drop (i + 1) xs) (sym c.bound-item.is) in
    go_on bound_kind c.args.refs.now c.loop-bound.refs c.push_bound.new.refs c.args.rows.now c.loop-bound.rows c.push_bound.new.rows (bounds_with c.args.row xs) (bounds_with c.args.row (drop i xs)) (bounds_with c.args.row (x ∷ [])) (bounds_with c.args.row (drop (i + 1) xs)) (ap (bounds_with c.args.row) here)
    c.loop-bound.invariant c.in_ok-push_bound.ensures

pub returns : goal.returns
returns c =
    let xs = c.args.bounds.now in
    let i = c.loop-bound.bound-index in
    end bound_kind c.args.refs.now c.loop-bound.refs c.args.rows.now c.loop-bound.rows (bounds_with c.args.row xs) (bounds_with c.args.row (drop i xs)) (ap (bounds_with c.args.row) (drop_of_length-le xs {i = i} (omega arith))) c.loop-bound.invariant
