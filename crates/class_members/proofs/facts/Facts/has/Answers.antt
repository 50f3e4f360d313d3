use Rattle.std.proofs.Common.{true, false}
use Rattle.class_members.proofs.Lists.{is_in}
use Rattle.class_members.proofs.facts.Facts.has.Goals as goal

pub returns-in-Some : goal.returns-in-Some
returns-in-Some c = rw (← c.self.view_is) (is_in (λ v. v.items) c.args.fact.now c.self.inside.facts.keys true c.in-Some.ensures.found)

pub returns-in-None : goal.returns-in-None
returns-in-None c = rw (← c.self.view_is) (is_in (λ v. v.items) c.args.fact.now c.self.inside.facts.keys false c.in-None.ensures.found)
