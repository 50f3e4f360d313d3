use Rattle.kept_members.specs.Maps.{all_of, Adds}
use Rattle.kept_members.specs.Members.{IsMethodOf, IsInstance}
use Rattle.kept_members.proofs.Adding.{Upto}
use Rattle.kept_members.proofs.instances.keep_instances.Given as goal

abbrev pub invariant-loop-row : goal.invariant-loop-row
invariant-loop-row l = Adds (IsMethodOf l.image l.known) (all_of l.fn.methods) (all_of l.methods) × Upto (IsInstance l.image) 0x2B l.row (all_of l.methods)
