use Rattle.std.proofs.Common.{ℕ, ◌+◌, ◌-◌, ◌/◌, ◌<◌, ◌≤◌, refl, subst, arith}
use Rattle.metadata_tables.specs.Stream.{cell}
use Rattle.image_model.specs.Streams.{tables_of}
use Rattle.row_groups.proofs.Ranges.{more_before, more_behind}
use Rattle.row_groups.proofs.owned.first_from.Goals as goal

pub loop-first-preserved-then-from-value : goal.loop-first-preserved-then-from-value
loop-first-preserved-then-from-value c =
    let middle : ℕ = c.loop-first.first + (c.loop-first.end - c.loop-first.first) / 2 in
    let seen : cell c.tables-tables.result.now c.args.table middle c.args.column < c.args.value = let e = c.cell.ensures in let f = c.from.ensures in let t = c.if-from-value.true in omega arith in
    let here : cell (tables_of c.args.image.now) c.args.table middle c.args.column < c.args.value = subst (λ s. cell s c.args.table middle c.args.column < c.args.value) c.tables-tables.ensures.tables seen in
    more_before c.args.image.now c.args.table c.args.column c.args.value c.loop-first.first c.loop-first.end middle c.requires.order c.loop-first.invariant c.loop-first-test.true refl here

pub loop-first-preserved : goal.loop-first-preserved
loop-first-preserved c =
    let middle : ℕ = c.loop-first.first + (c.loop-first.end - c.loop-first.first) / 2 in
    let seen : c.args.value ≤ cell c.tables-tables.result.now c.args.table middle c.args.column = let e = c.cell.ensures in let f = c.from.ensures in let t = c.if-from-value.false in omega arith in
    let here : c.args.value ≤ cell (tables_of c.args.image.now) c.args.table middle c.args.column = subst (λ s. c.args.value ≤ cell s c.args.table middle c.args.column) c.tables-tables.ensures.tables seen in
    more_behind c.args.image.now c.args.table c.args.column c.args.value c.loop-first.first c.loop-first.end middle c.requires.order c.loop-first.invariant c.loop-first-test.true refl here
