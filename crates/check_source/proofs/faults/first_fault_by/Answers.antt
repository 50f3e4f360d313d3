use Rattle.std.proofs.Common.{subst}
use Rattle.check_source.specs.SourceFaults.{IsFirst}
use Rattle.check_source.proofs.faults.first_fault_by.Goals as goal

pub returns-in-Some : goal.returns-in-Some
returns-in-Some c s r = record {
  token = c.in-Some.first.breach.token;
  first = subst (IsFirst s) c.in-Some.is (c.in_ok-first.ensures s r);
  place = c.token_place.ensures s r;
}

pub returns-in-None : goal.returns-in-None
returns-in-None c s r = subst (IsFirst s) c.in-None.is (c.in_ok-first.ensures s r)
