use Rattle.std.proofs.Common.{◌≡◌, ◌∙◌, ap, sym, ◌+◌, [], ◌∷◌, ◌++◌, drop, drop_of_length-le, map, arith}
use Rattle.std.proofs.lemmas.List.{drop_more}
use Rattle.image_members.specs.Places.{lent}
use Rattle.image_members.proofs.PlaceLemmas.{filled_begin, filled_on, filled_end, lent_one}
use Rattle.image_members.proofs.carrying.add_carried.Goals as goal

pub loop-carrier-init : goal.loop-carrier-init
loop-carrier-init g c = filled_begin (lent c.args.all.now) (map g.T.Carries.value_of (lent c.args.carriers.now))

pub loop-carrier-preserved : goal.loop-carrier-preserved
loop-carrier-preserved g c =
    let f = g.T.Carries.value_of in
    let xs = c.args.carriers.now in
    let i = c.loop-carrier.carrier-index in
    let x = c.carrier-item.result in
    let here : drop i xs ≡ x ∷ drop (i + 1) xs = drop_more xs i x (omega arith) ∙ ap (λ y. y ∷ drop (i + 1) xs) (sym c.carrier-item.is) in
    filled_on (lent c.args.all.now) (lent c.loop-carrier.all) (lent c.push.new.self) (map f (lent xs)) (map f (lent (drop i xs))) (f x.now ∷ []) (map f (lent (drop (i + 1) xs)))
    (ap (λ ys. map f (lent ys)) here) c.loop-carrier.invariant
    (lent_one c.loop-carrier.all c.push.new.self _ c.in_ok-push.ensures.ok ∙ ap (λ y. lent c.loop-carrier.all ++ y ∷ []) c.carried.ensures)

pub returns : goal.returns
returns g c =
    let f = g.T.Carries.value_of in
    let xs = c.args.carriers.now in
    let i = c.loop-carrier.carrier-index in
    filled_end (lent c.args.all.now) (lent c.loop-carrier.all) (map f (lent xs)) (map f (lent (drop i xs))) (ap (λ ys. map f (lent ys)) (drop_of_length-le xs {i = i} (omega arith))) c.loop-carrier.invariant
