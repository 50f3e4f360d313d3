use Rattle.kept_members.specs.Maps.{all_of, Adds}
use Rattle.kept_members.specs.Members.{IsMethodOf}
use Rattle.kept_members.proofs.Adding.{Within}
use Rattle.kept_members.proofs.declared_methods.keep_rows.Given as goal

abbrev pub invariant-loop-k : goal.invariant-loop-k
invariant-loop-k l = Adds (IsMethodOf l.image l.known) (all_of l.fn.methods) (all_of l.methods) × Within 0x06 l.rows.first l.k (all_of l.methods)
