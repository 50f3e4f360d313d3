use Rattle.check_visitor.proofs.LeastOfRules.{then_rule}
use Rattle.check_bodies.specs.AllOfBodies.{twice_in, undeclared_in}
use Rattle.check_bodies.proofs.label_faults.label_fault.Goals as goal

pub returns : goal.returns
returns c s n r m e are tokens known plain =
    then_rule c.sooner.result c.in_ok-twice.twice c.in_ok-missing.missing (twice_in s n) (undeclared_in s n) c.sooner.ensures
    (c.in_ok-twice.ensures s n e known) (c.in_ok-missing.ensures s n r m e are tokens known plain)
