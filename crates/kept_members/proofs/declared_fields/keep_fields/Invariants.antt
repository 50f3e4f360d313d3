use Rattle.image_model.specs.Rows.{fields_of}
use Rattle.kept_members.specs.Maps.{all_of, Adds}
use Rattle.kept_members.specs.Members.{IsFieldOf}
use Rattle.kept_members.proofs.Naming.{OfTypes}
use Rattle.kept_members.proofs.declared_fields.keep_fields.Given as goal

abbrev pub invariant-loop-of : goal.invariant-loop-of
invariant-loop-of l = Adds (IsFieldOf l.image l.known) (all_of l.fn.fields) (all_of l.fields) × OfTypes l.image fields_of 0x04 l.of (all_of l.fields)
