use Rattle.std.proofs.Common.{arith}
use Rattle.std.specs.Prelude.{slice_index_or}
use Rattle.hash_places.proofs.SlotLemmas.{all_used, put_placed, put_reached, set_counted, stop_place, stop_read}
use Rattle.hash_places.proofs.slots.put.Goals as goal

pub returns-in-Some-clause-counted : goal.returns-in-Some-clause-counted
returns-in-Some-clause-counted c =
    let counted = set_counted c.args.slots.now c.in-Some.k record { hash = c.args.hash; place = c.args.place } (slice_index_or c.args.slots.now c.in-Some.k record { hash = 0; place = 0 })
    (stop_read c.args.slots.now c.args.hash c.in-Some.k record { hash = 0; place = 0 } c.in-Some.ensures) in
    omega (arith, counted, c.requires.used)

pub returns-in-Some-clause-reached : goal.returns-in-Some-clause-reached
returns-in-Some-clause-reached c = put_reached c.args.slots.now c.requires.reached c.args.hash c.in-Some.k c.args.place c.in-Some.ensures c.requires.used

pub returns-in-Some-clause-placed : goal.returns-in-Some-clause-placed
returns-in-Some-clause-placed c = put_placed c.args.slots.now c.requires.reached c.args.hash c.in-Some.k c.args.place c.in-Some.ensures c.requires.used

pub returns-in-Some-clause-answer : goal.returns-in-Some-clause-answer
returns-in-Some-clause-answer c =
    stop_place c.args.slots.now c.requires.reached c.args.hash c.in-Some.k c.in-Some.ensures (slice_index_or c.args.slots.now c.in-Some.k record { hash = 0; place = 0 })
    (stop_read c.args.slots.now c.args.hash c.in-Some.k record { hash = 0; place = 0 } c.in-Some.ensures)

-- some slot is empty, so the search ends
pub returns-in-None-clause-counted : goal.returns-in-None-clause-counted
returns-in-None-clause-counted c = let full = all_used c.args.slots.now (λ k s at. (c.in-None.ensures k s at).0) in absurd (omega (arith, full, c.requires.room))

pub returns-in-None-clause-placed : goal.returns-in-None-clause-placed
returns-in-None-clause-placed c = let full = all_used c.args.slots.now (λ k s at. (c.in-None.ensures k s at).0) in absurd (omega (arith, full, c.requires.room))

pub returns-in-None-clause-answer : goal.returns-in-None-clause-answer
returns-in-None-clause-answer c = let full = all_used c.args.slots.now (λ k s at. (c.in-None.ensures k s at).0) in absurd (omega (arith, full, c.requires.room))
