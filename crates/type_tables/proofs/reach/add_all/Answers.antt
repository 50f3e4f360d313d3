use Rattle.std.proofs.Common.{ℕ, sym, get_or}
use Rattle.std.proofs.lemmas.Grind.{get_or_default_zero}
use Rattle.type_hierarchy.proofs.QueueLemmas.{adds_next}
use Rattle.type_tables.proofs.ReachLemmas.{inserted_as}
use Rattle.type_tables.proofs.reach.add_all.Goals as goal

pub loop-place-preserved : goal.loop-place-preserved
loop-place-preserved c =
    let place : ℕ = get_or c.args.places.now c.loop-place.place-index 0 in
    adds_next c.args.seen.now.keys c.loop-place.seen.keys c.insert.new.self.keys c.args.places.now c.loop-place.place-index place c.loop-place.invariant
    (inserted_as c.loop-place.seen.keys c.insert.new.self.keys place c.in_ok-insert.ensures.keys) c.loop-place-test.true
    (sym (get_or_default_zero c.args.places.now c.loop-place.place-index place c.loop-place-test.true))
