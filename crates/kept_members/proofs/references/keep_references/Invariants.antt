use Rattle.kept_members.specs.Maps.{all_of, Adds}
use Rattle.kept_members.specs.Members.{IsMethodOf, IsFieldOf, IsMemberMethod, IsMemberField}
use Rattle.kept_members.proofs.Adding.{Upto}
use Rattle.kept_members.proofs.references.keep_references.Given as goal

abbrev pub invariant-loop-row : goal.invariant-loop-row
invariant-loop-row l =
    Adds (IsMethodOf l.image l.known) (all_of l.fn.methods) (all_of l.methods) × Adds (IsFieldOf l.image l.known) (all_of l.fn.fields) (all_of l.fields)
    × Upto (IsMemberMethod l.image l.known) 0x0A l.row (all_of l.methods) × Upto (IsMemberField l.image l.known) 0x0A l.row (all_of l.fields)
