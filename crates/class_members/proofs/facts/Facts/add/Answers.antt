use Rattle.class_members.proofs.Lists.{is_noted}
use Rattle.class_members.proofs.facts.Facts.add.Goals as goal

pub returns : goal.returns
returns c =
    rw (← c.self.view_is, ← c.in_ok-fact.ensures.items)
    (is_noted (λ v. v.items) c.self.inside.facts.keys c.insert.new.self.keys c.in_ok-fact.fact c.in_ok-insert.ensures.keys)
