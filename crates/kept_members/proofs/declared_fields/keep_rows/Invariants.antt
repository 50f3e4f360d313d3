use Rattle.kept_members.specs.Maps.{all_of, Adds}
use Rattle.kept_members.specs.Members.{IsFieldOf}
use Rattle.kept_members.proofs.Adding.{Within}
use Rattle.kept_members.proofs.declared_fields.keep_rows.Given as goal

abbrev pub invariant-loop-k : goal.invariant-loop-k
invariant-loop-k l = Adds (IsFieldOf l.image l.known) (all_of l.fn.fields) (all_of l.fields) × Within 0x04 l.rows.first l.k (all_of l.fields)
