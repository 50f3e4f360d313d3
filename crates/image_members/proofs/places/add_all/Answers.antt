use Rattle.std.proofs.Common.{◌≡◌, ◌∙◌, ap, sym, ◌+◌, ◌≤◌, [], ◌∷◌, drop, drop_of_length-le, arith}
use Rattle.std.proofs.lemmas.List.{drop_more}
use Rattle.image_members.specs.Places.{lent}
use Rattle.image_members.proofs.PlaceLemmas.{filled_begin, filled_on, filled_end, lent_one}
use Rattle.image_members.proofs.places.add_all.Goals as goal

pub loop-item-init : goal.loop-item-init
loop-item-init g c = filled_begin (lent c.args.all.now) c.args.items.now

pub loop-item-preserved : goal.loop-item-preserved
loop-item-preserved g c =
    let xs = c.args.items.now in
    let i = c.loop-item.item-index in
    let x = c.item-item.result in
    let here : drop i xs ≡ x ∷ drop (i + 1) xs = drop_more xs i x (omega arith) ∙ ap (λ y. y ∷ drop (i + 1) xs) (sym c.item-item.is) in
    filled_on (lent c.args.all.now) (lent c.loop-item.all) (lent c.push.new.self) xs (drop i xs) (x ∷ []) (drop (i + 1) xs) here c.loop-item.invariant
    (lent_one c.loop-item.all c.push.new.self _ c.in_ok-push.ensures.ok)

pub returns : goal.returns
returns g c =
    let xs = c.args.items.now in
    let i = c.loop-item.item-index in
    filled_end (lent c.args.all.now) (lent c.loop-item.all) xs (drop i xs) (drop_of_length-le xs {i = i} (omega arith)) c.loop-item.invariant
