use Rattle.std.proofs.Common.{◌≡◌, take, fold}
use Rattle.print_members.specs.Rows.{accessor_step}
use Rattle.print_members.proofs.accessors.write_accessors.Given as goal

abbrev pub invariant-loop-accessor : goal.invariant-loop-accessor
invariant-loop-accessor l = l.paper ≡ fold (accessor_step l.externs l.path l.methods) l.initial.paper (take l.accessor-index l.accessors)
