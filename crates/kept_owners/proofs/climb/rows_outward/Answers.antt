use Rattle.std.proofs.Common.{arith}
use Rattle.kept_owners.proofs.Climbing.{climb_starts, climbed, at_end, named_at, climb_goes}
use Rattle.kept_owners.proofs.Paths.{is_table, there}
use Rattle.kept_owners.proofs.climb.rows_outward.Goals as goal

pub loop-init : goal.loop-init
loop-init c = rw c.new-rows.ensures (climb_starts c.args.image.now c.args.table c.args.row c.requires.short)

pub returns-then-at-eq0 : goal.returns-then-at-eq0
returns-then-at-eq0 c = climbed c.args.image.now c.args.table c.args.row c.loop.rows c.loop.at c.loop.counter c.loop.invariant c.if-at-eq0.true

pub outer_of-at-requires-clause-kind : goal.outer_of-at-requires-clause-kind
outer_of-at-requires-clause-kind c =
    is_table (named_at c.args.image.now c.requires.meets.indexes c.args.table c.args.row c.loop.rows c.loop.at c.loop.counter c.loop.invariant c.if-at-eq0.false).2

pub outer_of-at-requires-clause-there : goal.outer_of-at-requires-clause-there
outer_of-at-requires-clause-there c =
    there (named_at c.args.image.now c.requires.meets.indexes c.args.table c.args.row c.loop.rows c.loop.at c.loop.counter c.loop.invariant c.if-at-eq0.false).2

pub loop-preserved : goal.loop-preserved
loop-preserved c =
    rw (c.in_ok-push.ensures.ok, c.outer_of-at.ensures)
    (climb_goes c.args.image.now c.requires.meets.indexes c.args.table c.args.row c.loop.rows c.loop.at c.loop.counter c.loop.invariant c.if-at-eq0.false (omega arith))

pub returns : goal.returns
returns c =
    climbed c.args.image.now c.args.table c.args.row c.loop.rows c.loop.at c.loop.counter c.loop.invariant
    (at_end c.args.image.now c.args.table c.args.row c.loop.rows c.loop.at c.loop.counter c.loop.invariant (omega arith))
