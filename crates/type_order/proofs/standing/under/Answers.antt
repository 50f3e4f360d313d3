use Rattle.type_order.proofs.StandingLemmas.{under_jump, under_parent}
use Rattle.type_order.proofs.standing.under.Goals as goal

pub returns-then-standing-next : goal.returns-then-standing-next
returns-then-standing-next c = λ w ns below known standing low e.
    under_jump w ns below c.args.id c.in-Some.depth c.args.standing.now c.in-Some-known_standing.next standing (known.standings c.args.standing.now.jump c.in-Some-known_standing.next c.in-Some-known_standing.ensures) low e
    c.in-Some.ensures.1

pub returns : goal.returns
returns c = λ w ns below known standing low e. under_parent w ns below c.args.id c.in-Some.depth c.args.standing.now standing low e c.in-Some.ensures.1
