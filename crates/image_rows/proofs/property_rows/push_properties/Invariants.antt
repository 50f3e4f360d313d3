use Rattle.std.proofs.Common.{drop}
use Rattle.image_members.specs.Places.{lent}
use Rattle.image_members.proofs.KindLemmas.{Pushing}
use Rattle.image_rows.proofs.PropertyLemmas.{property_kind}
use Rattle.image_rows.proofs.property_rows.push_properties.Given as goal

abbrev pub invariant-loop-property : goal.invariant-loop-property
invariant-loop-property l = Pushing property_kind l.initial.refs l.refs l.initial.rows l.rows (lent l.properties) (lent (drop l.property-index l.properties))
