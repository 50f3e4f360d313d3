use Rattle.std.proofs.Common.{◌≡◌, ◌∙◌, ap, sym, ◌+◌, [], ◌∷◌, ◌++◌, drop, drop_of_length-le, map, arith}
use Rattle.std.proofs.lemmas.List.{drop_more, map-append}
use Rattle.image_members.specs.Lists.{access_of}
use Rattle.image_rows.specs.SemanticsRows.{methods_of}
use Rattle.image_rows.proofs.AccessLemmas.{access_by}
use Rattle.image_members.proofs.PlaceLemmas.{filled_begin, filled_on, filled_end}
use Rattle.image_rows.proofs.accessor_lists.add_accesses.Goals as goal

pub loop-carrier-init : goal.loop-carrier-init
loop-carrier-init g c = filled_begin (map methods_of c.args.all.now) (map (access_by g.T.Carries.value_of c.args.first) c.args.carriers.now)

pub loop-carrier-preserved : goal.loop-carrier-preserved
loop-carrier-preserved g c =
    let f = access_by g.T.Carries.value_of c.args.first in
    let xs = c.args.carriers.now in
    let i = c.loop-carrier.carrier-index in
    let x = c.carrier-item.result in
    let here : drop i xs ≡ x ∷ drop (i + 1) xs = drop_more xs i x (omega arith) ∙ ap (λ y. y ∷ drop (i + 1) xs) (sym c.carrier-item.is) in
    let old = c.loop-carrier.all in
    let last : map methods_of c.push.new.self ≡ map methods_of old ++ access_of c.args.first c.carried-of.result.now ∷ [] = ap (map methods_of) c.in_ok-push.ensures.ok ∙ map-append methods_of old _ in
    filled_on (map methods_of c.args.all.now) (map methods_of old) (map methods_of c.push.new.self) (map f xs) (map f (drop i xs)) (f x ∷ []) (map f (drop (i + 1) xs))
    (ap (map f) here) c.loop-carrier.invariant (last ∙ ap (λ y. map methods_of old ++ access_of c.args.first y ∷ []) c.carried-of.ensures)

pub returns : goal.returns
returns g c =
    let f = access_by g.T.Carries.value_of c.args.first in
    let xs = c.args.carriers.now in
    let i = c.loop-carrier.carrier-index in
    filled_end (map methods_of c.args.all.now) (map methods_of c.loop-carrier.all) (map f xs) (map f (drop i xs)) (ap (map f) (drop_of_length-le xs {i = i} (omega arith))) c.loop-carrier.invariant
