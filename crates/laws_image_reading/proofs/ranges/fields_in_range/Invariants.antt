use Rattle.std.proofs.Common.{take}
use Rattle.std.specs.List.{AllByRecursion}
use Rattle.image_members.specs.Places.{lent}
use Rattle.laws_image_reading.specs.parts.Ranges.{IsFieldInRange}
use Rattle.laws_image_reading.proofs.ranges.fields_in_range.Given as goal

abbrev pub invariant-loop-field : goal.invariant-loop-field
invariant-loop-field l = AllByRecursion IsFieldInRange (lent (take l.field-index l.fields))
