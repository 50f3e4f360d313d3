use Rattle.std.proofs.Common.{◌∙◌, ap}
use Rattle.source_nodes.specs.Least.{sooner}
use Rattle.check_members.specs.MemberKinds.{parts_at}
use Rattle.check_members.proofs.LoneLemmas.{none_twice}
use Rattle.check_members.proofs.TwiceLemmas.{twice_is}
use Rattle.check_members.proofs.member_reading.Signatures.again.Goals as goal

pub returns-then-not-has_two : goal.returns-then-not-has_two
returns-then-not-has_two g c s a f v r p h e b =
    none_twice s a (parts_at c.args.level f) c.orders_are_total.ensures.terms (c.has_two.ensures f e c.if-not-has_two.true)

pub returns : goal.returns
returns g c s a f v r p h e b =
    c.sooner.ensures ∙ ap (sooner c.in_ok-field.field) (c.sooner-later.ensures ∙ ap (sooner c.in_ok-method.method) c.sooner-last.ensures)
    ∙ twice_is s a (parts_at c.args.level f) c.orders_are_total.ensures.terms c.in_ok-field.field c.in_ok-method.method c.in_ok-property.property c.in_ok-event.event
    (c.in_ok-field.ensures s a f v r p h e b) (c.in_ok-method.ensures s a f v r p h e b) (c.in_ok-property.ensures s a f v r p h e b) (c.in_ok-event.ensures s a f v r p h e b)
