use Rattle.std.proofs.Common.{get_or}
use Rattle.listing_printer.proofs.Ways.{is_within, further, item_any}
use Rattle.listing_printer.proofs.places.walk.Goals as goal

pub bounds-inner-place : goal.bounds-inner-place
bounds-inner-place c =
    let ks = c.args.places.now in
    let i = c.loop-place.place-index in
    is_within _ c.requires c.loop-place.inner.now c.loop-place.found.now c.loop-place.path ks i (get_or ks i 0) c.loop-place-test.true
    (item_any ks i 0 (get_or ks i 0) c.loop-place-test.true) c.loop-place.invariant

pub loop-place-preserved : goal.loop-place-preserved
loop-place-preserved c =
    let ks = c.args.places.now in
    let i = c.loop-place.place-index in
    let same = item_any ks i 0 (get_or ks i 0) c.loop-place-test.true in
    further _ c.requires c.loop-place.inner.now c.loop-place.found.now c.loop-place.path ks i (get_or ks i 0) c.index-inner-place.result _ _ _ c.loop-place-test.true same
    (is_within _ c.requires c.loop-place.inner.now c.loop-place.found.now c.loop-place.path ks i (get_or ks i 0) c.loop-place-test.true same c.loop-place.invariant)
    c.index-inner-place.is c.as_slice-inner.ensures c.as_slice-found.ensures c.in_ok-enter.ensures c.loop-place.invariant
