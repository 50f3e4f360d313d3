use Rattle.std.proofs.Common.{◌≡◌, take}
use Rattle.print_members.specs.Rows.{customs_drawn}
use Rattle.print_members.proofs.values.write_attributes.Given as goal

abbrev pub invariant-loop-attribute : goal.invariant-loop-attribute
invariant-loop-attribute l = l.paper ≡ customs_drawn l.externs l.initial.paper (take l.attribute-index l.attributes)
