use Rattle.spec_facts.proofs.Placing.{placed_more}
use Rattle.spec_facts.proofs.distinct.placed_blobs.Goals as goal

pub loop-row-preserved : goal.loop-row-preserved
loop-row-preserved c =
    rw c.in_ok-push.ensures.ok
    (placed_more c.args.image.now c.loop-row.newest c.place_of.new.newest c.loop-row.places c.loop-row.heads c.place_of.new.heads c.loop-row.row c.in_ok-place.place c.loop-row.invariant
    c.in_ok-place.ensures.placed c.in_ok-place.ensures.stays c.in_ok-place.ensures.one (rw c.index_of-index.ensures at c.in_ok-place.ensures.there))
