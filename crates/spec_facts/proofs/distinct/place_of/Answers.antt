use Rattle.std.proofs.Common.{[], ◌∷◌, ◌<◌, ◌^◌, arith}
use Rattle.spec_facts.proofs.Lists.{stays_behind, last_there}
use Rattle.spec_facts.proofs.Placing.{small_place, one_placed}
use Rattle.spec_facts.proofs.distinct.place_of.Goals as goal

pub overflow_cast-result : goal.overflow_cast-result
overflow_cast-result c =
    let small : c.in-Some.place < 2 ^ 32 =
    small_place c.args.newest.now c.args.heads.now c.args.index c.from-hash.result c.in-Some.place c.requires.places c.from-hash.ensures c.in-Some.ensures c.requires.few in
    omega arith

pub returns-in_err-insert-clause-stays : goal.returns-in_err-insert-clause-stays
returns-in_err-insert-clause-stays c = λ place head e. rw c.in_ok-push.ensures.ok (stays_behind c.args.heads.now (c.args.index ∷ []) place head e)

pub returns-clause-placed : goal.returns-clause-placed
returns-clause-placed c =
    rw c.in_ok-push.ensures.ok
    (one_placed c.args.newest.now c.insert.new.self c.args.heads.now c.args.index c.requires.places
    (λ q. rw (c.from-hash.ensures, c.len-place.ensures) at (c.in_ok-insert.ensures.ok q)))

pub returns-clause-there : goal.returns-clause-there
returns-clause-there c = rw (c.in_ok-push.ensures.ok, c.len-place.ensures) (last_there c.args.heads.now c.args.index)

pub returns-clause-stays : goal.returns-clause-stays
returns-clause-stays c = λ place head e. rw c.in_ok-push.ensures.ok (stays_behind c.args.heads.now (c.args.index ∷ []) place head e)
