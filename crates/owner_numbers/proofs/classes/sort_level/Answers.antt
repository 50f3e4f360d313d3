use Rattle.std.proofs.Common.{◌≡◌, ◌+◌, ◌<◌, ◌≤◌, subst, arith}
use Rattle.owner_numbers.specs.Sorting.{AreDone}
use Rattle.owner_numbers.specs.Terms.{spec_count}
use Rattle.owner_numbers.proofs.Steps.{deeper, done_level}
use Rattle.owner_numbers.proofs.classes.sort_level.Goals as goal

pub loop-k-init : goal.loop-k-init
loop-k-init g c = (c.requires.sorted, c.requires.done)

pub sort_row-requires-clause-within : goal.sort_row-requires-clause-within
sort_row-requires-clause-within g c = let e = c.requires.count in let t = c.loop-k-test.true in (omega arith, omega arith)

pub sort_row-requires-clause-sorted : goal.sort_row-requires-clause-sorted
sort_row-requires-clause-sorted g c = c.loop-k.invariant.0

pub sort_row-requires-clause-done : goal.sort_row-requires-clause-done
sort_row-requires-clause-done g c = c.loop-k.invariant.1

pub loop-k-preserved : goal.loop-k-preserved
loop-k-preserved g c = (c.in_ok-sort_row.ensures.sorted, c.in_ok-sort_row.ensures.done)

pub returns-clause-sorted : goal.returns-clause-sorted
returns-clause-sorted g c = deeper c.args.given.now.image.now (g.F.Owners.facts c.args.given.now.facts.now) c.loop-k.sorted c.args.level c.loop-k.invariant.0

pub returns-clause-done : goal.returns-clause-done
returns-clause-done g c =
    let e = c.requires.count in
    let t = c.loop-k-test.false in
    done_level c.args.given.now.image.now (g.F.Owners.facts c.args.given.now.facts.now) c.loop-k.sorted c.args.level (c.loop-k.k + 1) (omega arith) c.loop-k.invariant.1
