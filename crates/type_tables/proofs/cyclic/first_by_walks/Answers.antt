use Rattle.std.proofs.Common.{◌<◌, arith, length, sym, ◌∙◌}
use Rattle.type_tables.proofs.ReachLemmas.{found, absent}
use Rattle.type_tables.proofs.CycleLemmas.{tried, tried_more, first_by_walk, none_by_walks}
use Rattle.type_tables.proofs.cyclic.first_by_walks.Goals as goal

pub returns-then-contains : goal.returns-then-contains
returns-then-contains c =
    let low : c.loop-k.k-counter < length c.args.steps.now = omega (arith, c.len-k-end.ensures, c.loop-k-test.true) in
    first_by_walk c.args.steps.now c.loop-k.k-counter c.in_ok-seen.seen.keys c.loop-k.invariant low c.in_ok-seen.ensures
    (found c.in_ok-seen.seen.keys c.loop-k.k-counter (sym c.contains.ensures ∙ c.if-contains.true))

pub loop-k-preserved : goal.loop-k-preserved
loop-k-preserved c =
    tried_more c.args.steps.now c.loop-k.k-counter c.loop-k.invariant
    (tried c.args.steps.now c.loop-k.k-counter c.in_ok-seen.seen.keys c.in_ok-seen.ensures
    (absent c.in_ok-seen.seen.keys c.loop-k.k-counter (sym c.contains.ensures ∙ c.if-contains.false)))

pub returns : goal.returns
returns c = none_by_walks c.args.steps.now c.requires (λ j h. c.loop-k.invariant j (omega (arith, c.len-k-end.ensures, c.loop-k-test.false, h)))
