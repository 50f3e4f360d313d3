use Rattle.image_model.specs.Rows.{methods_of}
use Rattle.kept_members.specs.Maps.{all_of, Adds}
use Rattle.kept_members.specs.Members.{IsMethodOf}
use Rattle.kept_members.proofs.Naming.{OfTypes}
use Rattle.kept_members.proofs.declared_methods.keep_methods.Given as goal

abbrev pub invariant-loop-of : goal.invariant-loop-of
invariant-loop-of l = Adds (IsMethodOf l.image l.known) (all_of l.fn.methods) (all_of l.methods) × OfTypes l.image methods_of 0x06 l.of (all_of l.methods)
