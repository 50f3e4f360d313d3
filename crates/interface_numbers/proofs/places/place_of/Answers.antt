use Rattle.std.proofs.Common.{◌≡◌, ◌<◌, ◌^◌, [], ◌∷◌, sym, ◌∙◌, arith, length-append}
use Rattle.interface_numbers.proofs.Placing.{found_more, place_new, front_stays}
use Rattle.interface_numbers.proofs.places.place_of.Goals as goal

pub overflow_cast-result : goal.overflow_cast-result
overflow_cast-result c =
    let f = c.requires.found.found c.key_of-key.result c.in-Some.place (sym c.in-Some.ensures) in
    let inside = f.1 in
    let few = c.requires.few in
    omega (arith, inside, few)

pub returns-in-Some-clause-place : goal.returns-in-Some-clause-place
returns-in-Some-clause-place c =
    let f = c.requires.found.found c.key_of-key.result c.in-Some.place (sym c.in-Some.ensures) in
    (f.0, f.1, (c.key_of-key.result, f.2, c.key_of-key.ensures))

pub returns-clause-found : goal.returns-clause-found
returns-clause-found c =
    rw c.in_ok-push.ensures.ok
    (found_more c.args.image.now c.args.newest.now c.insert.new.self c.args.heads.now c.args.row c.key_of-key.result c.requires.there c.key_of-key.ensures c.requires.found
    (λ q. rw c.len-place.ensures at (c.in_ok-insert.ensures.ok q)))

pub returns-clause-place : goal.returns-clause-place
returns-clause-place c =
    rw (c.in_ok-push.ensures.ok, c.len-place.ensures) (place_new c.args.image.now c.args.heads.now c.args.row c.key_of-key.result c.requires.found.some c.key_of-key.ensures)

pub returns-clause-stay : goal.returns-clause-stay
returns-clause-stay c = λ p less. rw c.in_ok-push.ensures.ok (front_stays c.args.heads.now (c.args.row ∷ []) p less)
