use Rattle.std.proofs.Common.{◌≡◌, ◌∙◌, ap, sym, ◌+◌, ◌≤◌, [], ◌∷◌, drop, drop_of_length-le, arith}
use Rattle.std.specs.Borrow.{Bor}
use Rattle.std.proofs.lemmas.List.{drop_more}
use Rattle.assembly_tree.specs.declared.members.Event.{Event}
use Rattle.image_members.specs.Places.{lent}
use Rattle.image_members.proofs.KindLemmas.{begin, front, go_on, end}
use Rattle.image_rows.proofs.EventLemmas.{event_kind}
use Rattle.image_rows.proofs.event_rows.push_events.Goals as goal

pub loop-event-init : goal.loop-event-init
loop-event-init c = begin event_kind c.args.refs.now c.args.rows.now (lent c.args.events.now) c.requires

pub push_event-requires : goal.push_event-requires
push_event-requires c =
    let xs = c.args.events.now in
    let i = c.loop-event.event-index in
    let x = c.event-item.result in
    let here : drop i xs ≡ x ∷ drop (i + 1) xs = drop_more xs i x (omega arith) ∙ ap (λ (y : Bor Event). y ∷ drop (i + 1) xs) (sym c.event-item.is) in
    let items : lent (drop i xs) ≡ x.now ∷ lent (drop (i + 1) xs) = ap (lent {X = Event}) here in
    front event_kind c.args.refs.now c.loop-event.refs c.args.rows.now c.loop-event.rows (lent xs) (lent (drop i xs)) (x.now ∷ []) (lent (drop (i + 1) xs)) items c.loop-event.invariant

pub loop-event-preserved : goal.loop-event-preserved
loop-event-preserved c =
    let xs = c.args.events.now in
    let i = c.loop-event.event-index in
    let x = c.event-item.result in
    let here : drop i xs ≡ x ∷ drop (i + 1) xs = drop_more xs i x (omega arith) ∙ ap (λ (y : Bor Event). y ∷ drop (i + 1) xs) (sym c.event-item.is) in
    let items : lent (drop i xs) ≡ x.now ∷ lent (drop (i + 1) xs) = ap (lent {X = Event}) here in
    go_on event_kind c.args.refs.now c.loop-event.refs c.push_event.new.refs c.args.rows.now c.loop-event.rows c.push_event.new.rows (lent xs) (lent (drop i xs)) (x.now ∷ []) (lent (drop (i + 1) xs)) items
    c.loop-event.invariant c.in_ok-push_event.ensures

pub returns : goal.returns
returns c =
    let xs = c.args.events.now in
    let i = c.loop-event.event-index in
    end event_kind c.args.refs.now c.loop-event.refs c.args.rows.now c.loop-event.rows (lent xs) (lent (drop i xs)) (ap (lent {X = Event}) (drop_of_length-le xs {i = i} (omega arith))) c.loop-event.invariant
