use Rattle.std.proofs.Common.{◌≡◌, ◌∙◌, ap, sym, subst, ℕ, ◌+◌, ◌<◌, ◌≤◌, List, [], ◌∷◌, drop, drop_of_length-le, arith}
use Rattle.std.proofs.lemmas.List.{drop_more}
use Rattle.type_terms.specs.declared.term.Owner.{Owner}
use Rattle.image_rows.proofs.InterfaceLemmas.{IndexesTo, indexes_begin, index_can, index_room, indexes_on, indexes_end}
use Rattle.image_rows.proofs.interface_rows.indexes_of.Goals as goal

pub loop-owner-init : goal.loop-owner-init
loop-owner-init c =
    subst (λ (done : List ℕ). IndexesTo c.args.refs.now c.args.refs.now done c.args.owners.now c.args.owners.now) (sym c.new-indexes.ensures)
    (indexes_begin c.args.refs.now c.args.owners.now c.requires.known c.requires.writable c.requires.room)

pub type_index-requires-clause-known : goal.type_index-requires-clause-known
type_index-requires-clause-known c = c.loop-owner.invariant.known

pub type_index-requires-clause-writable : goal.type_index-requires-clause-writable
type_index-requires-clause-writable c =
    let xs = c.args.owners.now in
    let i = c.loop-owner.owner-index in
    let x = c.owner-item.result in
    let here : drop i xs ≡ x ∷ drop (i + 1) xs = drop_more xs i x (omega arith) ∙ ap (λ (y : Owner). y ∷ drop (i + 1) xs) (sym c.owner-item.is) in
    index_can c.args.refs.now c.loop-owner.refs c.loop-owner.indexes xs (drop i xs) (drop (i + 1) xs) x here c.loop-owner.invariant

pub type_index-requires-clause-room : goal.type_index-requires-clause-room
type_index-requires-clause-room c =
    let xs = c.args.owners.now in
    let i = c.loop-owner.owner-index in
    let x = c.owner-item.result in
    let here : drop i xs ≡ x ∷ drop (i + 1) xs = drop_more xs i x (omega arith) ∙ ap (λ (y : Owner). y ∷ drop (i + 1) xs) (sym c.owner-item.is) in
    index_room c.args.refs.now c.loop-owner.refs c.loop-owner.indexes xs (drop i xs) (drop (i + 1) xs) x here c.loop-owner.invariant

pub loop-owner-preserved : goal.loop-owner-preserved
loop-owner-preserved c =
    let xs = c.args.owners.now in
    let i = c.loop-owner.owner-index in
    let x = c.owner-item.result in
    let here : drop i xs ≡ x ∷ drop (i + 1) xs = drop_more xs i x (omega arith) ∙ ap (λ (y : Owner). y ∷ drop (i + 1) xs) (sym c.owner-item.is) in
    indexes_on c.args.refs.now c.loop-owner.refs c.loop-owner.indexes xs (drop i xs) (drop (i + 1) xs) x here c.loop-owner.invariant c.type_index.new.refs c.in_ok-index.index c.push.new.self c.in_ok-index.ensures c.in_ok-push.ensures.ok

pub returns : goal.returns
returns c =
    let xs = c.args.owners.now in
    let i = c.loop-owner.owner-index in
    indexes_end c.args.refs.now c.loop-owner.refs c.loop-owner.indexes xs (drop i xs) (drop_of_length-le xs {i = i} (omega arith)) c.loop-owner.invariant
