use Rattle.std.proofs.Common.{◌≡◌, ◌≤◌, ℕ, ◌+◌, length, drop, sym, ap, ◌∙◌, arith, refl}
use Rattle.std.specs.Int.{bit_at}
use Rattle.byteorder.specs.Endian.{little_number}
use Rattle.std.proofs.lemmas.List.{length-set}
use Rattle.metadata_tables.specs.Stream.{present, row_count}
use Rattle.metadata_tables.proofs.Bits.{count_place_none, count_place_more, count_fits, row_count_there, row_count_none, bit_none, set_more}
use Rattle.metadata_tables.proofs.header.row_counts.Goals as goal
use Rattle.metadata_tables.proofs.header.row_counts.Goals.{then-mask-table-eq1, else-mask-table-eq1, Then-mask-table-eq1}

pub loop-table-init : goal.loop-table-init
loop-table-init c = (sym (count_place_none c.args.stream.now), refl, λ u h. absurd (omega arith))

-- the count fits behind those before it
room : (c : Then-mask-table-eq1) → c.loop-table.at + 4 ≤ length c.args.stream.now
room c =
    let bit : bit_at (present c.args.stream.now) c.loop-table.table ≡ 1 = rw (← c.requires.tables) c.if-mask-table-eq1.true in
    let fits = count_fits c.args.stream.now c.loop-table.table bit in
    omega (arith, fits, c.loop-table.invariant.0, c.requires.room)

pub number_at-count-requires-clause-room : goal.number_at-count-requires-clause-room
number_at-count-requires-clause-room c = room c

pub overflow_add-at : goal.overflow_add-at
overflow_add-at c = let r = room (goal.at.overflow_add-at c).Then-mask-table-eq1 in omega (arith, r)

pub loop-table-preserved : goal.loop-table-preserved
loop-table-preserved c =
    let s = c.args.stream.now in
    let t = c.loop-table.table in
    let next = count_place_more s t in
    let there = ap (λ (at : ℕ). little_number 4 (drop at s)) c.loop-table.invariant.0 in (
      elim c.if-mask-table-eq1.branch [
        | then-mask-table-eq1 w ↦
            let bit : bit_at (present s) t ≡ 1 = rw (← c.requires.tables) w.if-mask-table-eq1.true in
            omega (arith, next, bit, w.at-is, c.loop-table.invariant.0)
        | else-mask-table-eq1 w ↦
            let bit : bit_at (present s) t ≡ 0 = bit_none (present s) t (rw (← c.requires.tables) w.if-mask-table-eq1.false) in
            omega (arith, next, bit, w.at-is, c.loop-table.invariant.0)
      ],
      length-set c.loop-table.counts t c.if-mask-table-eq1.count ∙ c.loop-table.invariant.1,
      set_more (row_count s) c.loop-table.counts t c.if-mask-table-eq1.count (omega (arith, c.loop-table.invariant.1)) c.loop-table.invariant.2 (elim c.if-mask-table-eq1.branch [
        | then-mask-table-eq1 w ↦
            let bit : bit_at (present s) t ≡ 1 = rw (← c.requires.tables) w.if-mask-table-eq1.true in
            w.count-is ∙ w.number_at-count.ensures ∙ there ∙ sym (row_count_there s t bit)
        | else-mask-table-eq1 w ↦
            w.count-is ∙ sym (row_count_none s t (rw (← c.requires.tables) w.if-mask-table-eq1.false))
      ]),
    )
