use Rattle.std.proofs.Common.{◌≡◌, ℕ, sym, ◌∙◌, ap, ◌+◌, ◌-◌, ◌<◌, ◌≤◌, arith, length, slice_get, Some}
use Rattle.type_tables.proofs.ReachLemmas.{walk_begins, walk_more, walk_ends, at_within, few, nothing}
use Rattle.type_tables.proofs.reach.reached.Goals as goal

pub loop-done-init : goal.loop-done-init
loop-done-init c =
    walk_begins c.args.steps.now c.args.start c.new-seen.result.keys c.add_all.new.seen.keys c.as_slice.result.now (nothing c.new-seen.result.keys c.new-seen.ensures.len)
    (c.at.ensures ∙ ap Some (sym c.as_slice.ensures)) c.in_ok-add_all.ensures

pub at-requires-in-loop-done : goal.at-requires-in-loop-done
at-requires-in-loop-done c =
    let e : slice_get c.loop-done.seen.keys c.loop-done.done ≡ Some c.in-Some.at = cc in
    at_within c.args.steps.now c.args.start c.loop-done.seen.keys c.loop-done.done c.in-Some.at c.requires.within c.loop-done.invariant e

pub loop-done-smaller : goal.loop-done-smaller
loop-done-smaller c =
    let f = few c.args.steps.now c.args.start c.loop-done.seen.keys c.loop-done.done c.requires.within c.loop-done.invariant c.len.ensures.unique in
    let t : c.loop-done.done < length c.loop-done.seen.keys = omega (arith, c.len.ensures.len, c.loop-done-test.true) in
    less (length c.args.steps.now) (length c.loop-done.seen.keys) c.loop-done.done f t
  where
    less : (n m k : ℕ) → m ≤ n → k < m → n - (k + 1) < n - k
    less n m k h g = omega arith

pub loop-done-preserved : goal.loop-done-preserved
loop-done-preserved c =
    let e : slice_get c.loop-done.seen.keys c.loop-done.done ≡ Some c.in-Some.at = cc in
    walk_more c.args.steps.now c.args.start c.loop-done.seen.keys c.add_all-in-loop-done.new.seen.keys c.as_slice-in-loop-done.result.now c.loop-done.done c.in-Some.at c.loop-done.invariant e
    (c.at-in-loop-done.ensures ∙ ap Some (sym c.as_slice-in-loop-done.ensures)) c.in_ok-add_all-2.ensures

pub returns : goal.returns
returns c =
    let t : length c.loop-done.seen.keys ≤ c.loop-done.done = omega (arith, c.len.ensures.len, c.loop-done-test.false) in
    walk_ends c.args.steps.now c.args.start c.loop-done.seen.keys c.loop-done.done c.loop-done.invariant t c.len.ensures.unique
