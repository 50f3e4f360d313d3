use Rattle.std.proofs.Common.{rules, ◌≡◌, []}
use Rattle.type_order.proofs.StandingLemmas.{ladder_down, ladder_foot}
use Rattle.type_order.proofs.standing.descend.Goals as goal

pub loop-id-preserved : goal.loop-id-preserved
loop-id-preserved c = λ w ns id known ladder standing.
    let v = c.loop-id.invariant w ns id known ladder standing in
    let r = ladder_down w ns id c.loop-id.top c.loop-id.ids c.pop.new.self c.in-Some.id v.ladder c.in-Some.ensures in
    let st = c.in_ok-standing.ensures w ns c.in-Some.id v.known v.standing r.within r.parent in
    record { known = c.note_standing-in-Some.ensures w ns v.known st; ladder = r.ladder; standing = st }

pub returns-in_err-note_standing-2-clause-known : goal.returns-in_err-note_standing-2-clause-known
returns-in_err-note_standing-2-clause-known c = λ w ns id known ladder standing.
    let v = c.loop-id.invariant w ns id known ladder standing in
    let r = ladder_down w ns id c.loop-id.top c.loop-id.ids c.pop.new.self c.in-Some.id v.ladder c.in-Some.ensures in
    c.note_standing-in-Some.ensures w ns v.known (c.in_ok-standing.ensures w ns c.in-Some.id v.known v.standing r.within r.parent)

pub returns-clause-ok : goal.returns-clause-ok
returns-clause-ok c = λ w ns id known ladder standing.
    let v = c.loop-id.invariant w ns id known ladder standing in
    let none : c.loop-id.ids ≡ [] = search rules in
    ladder_foot w ns id c.loop-id.top c.loop-id.ids c.loop-id.standing v.ladder none v.standing
