use Rattle.std.proofs.Common.{◌∙◌}
use Rattle.check_members.proofs.AccessorLemmas.{not_here, own_found}
use Rattle.check_members.proofs.member_reading.Signatures.is_own_method.Goals as goal

pub returns-then-not-here : goal.returns-then-not-here
returns-then-not-here g c s a f v r h path ms e fits bodies unbroken =
    not_here s a f c.in_ok-here.here c.if-not-here.true (c.in_ok-here.ensures s a f v r h e fits bodies path)

pub returns : goal.returns
returns g c s a f v r h path ms e fits bodies unbroken =
    c.has.ensures
    ∙ own_found c.orders_are_total.ensures.terms s a f c.in_ok-here.here c.in_ok-member.member c.args.methods.now c.if-not-here.false
    (c.in_ok-here.ensures s a f v r h e fits bodies path) (c.in_ok-member.ensures s a f v r h e fits bodies unbroken) ms
