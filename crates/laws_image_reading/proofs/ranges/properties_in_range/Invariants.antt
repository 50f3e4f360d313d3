use Rattle.std.proofs.Common.{take}
use Rattle.std.specs.List.{AllByRecursion}
use Rattle.image_members.specs.Places.{lent}
use Rattle.laws_image_reading.specs.parts.Ranges.{IsPropertyInRange}
use Rattle.laws_image_reading.proofs.ranges.properties_in_range.Given as goal

abbrev pub invariant-loop-property : goal.invariant-loop-property
invariant-loop-property l = AllByRecursion IsPropertyInRange (lent (take l.property-index l.properties))
