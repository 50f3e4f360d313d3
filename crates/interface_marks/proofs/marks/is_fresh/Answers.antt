use Rattle.std.proofs.Common.{sym, arith, true≢false}
use Rattle.row_parts.proofs.Orders.{interfaces_ascend}
use Rattle.interface_marks.proofs.Marking.{there_before, is_fresh, is_alike, last_stays, last_put}
use Rattle.interface_marks.proofs.marks.is_fresh.Goals as goal

pub has_last-requires-clause-last : goal.has_last-requires-clause-last
has_last-requires-clause-last c = λ q k e.
    let image = c.args.image.now in
    there_before image c.args.numbers.now (interfaces_ascend image c.requires.meets) c.args.row c.requires.there c.args.last.now c.requires.last c.number_at-number.result (sym c.number_at-number.ensures) q k e

pub has_last-requires-clause-before : goal.has_last-requires-clause-before
has_last-requires-clause-before c = λ q k e. let s = c.requires.last.some q k e in let l = s.1 in let t = c.requires.there.0 in omega arith

pub returns-then-has_last-clause-last : goal.returns-then-has_last-clause-last
returns-then-has_last-clause-last c =
    let image = c.args.image.now in
    let h = c.has_last.ensures.yes c.if-has_last.true in
    last_stays image c.args.numbers.now (interfaces_ascend image c.requires.meets) c.args.row c.requires.there c.args.last.now c.requires.last c.number_at-number.result (sym c.number_at-number.ensures) h.0 h.1 h.2

pub returns-then-has_last-clause-fresh : goal.returns-then-has_last-clause-fresh
returns-then-has_last-clause-fresh c = λ e. absurd (true≢false (sym e))

pub returns-then-has_last-clause-again : goal.returns-then-has_last-clause-again
returns-then-has_last-clause-again c = λ e.
    let image = c.args.image.now in
    let h = c.has_last.ensures.yes c.if-has_last.true in
    is_alike image c.args.numbers.now (interfaces_ascend image c.requires.meets) c.args.row c.requires.there c.args.last.now c.requires.last c.number_at-number.result (sym c.number_at-number.ensures) h.0 h.1 h.2

pub returns-clause-last : goal.returns-clause-last
returns-clause-last c =
    let image = c.args.image.now in
    last_put image c.args.numbers.now (interfaces_ascend image c.requires.meets) c.args.row c.requires.there c.args.last.now c.requires.last c.number_at-number.result (sym c.number_at-number.ensures) c.insert.new.self c.in_ok-insert.ensures.ok

pub returns-clause-fresh : goal.returns-clause-fresh
returns-clause-fresh c = λ e.
    let image = c.args.image.now in
    is_fresh image c.args.numbers.now (interfaces_ascend image c.requires.meets) c.args.row c.requires.there c.args.last.now c.requires.last c.number_at-number.result (sym c.number_at-number.ensures) (c.has_last.ensures.no c.if-has_last.false)

pub returns-clause-again : goal.returns-clause-again
returns-clause-again c = λ e. absurd (true≢false e)
