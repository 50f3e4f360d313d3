use Rattle.std.proofs.Common.{take}
use Rattle.std.specs.List.{AllByRecursion}
use Rattle.image_members.specs.Places.{lent}
use Rattle.laws_image_reading.specs.parts.Ranges.{IsParamInRange}
use Rattle.laws_image_reading.proofs.ranges.params_in_range.Given as goal

abbrev pub invariant-loop-param : goal.invariant-loop-param
invariant-loop-param l = AllByRecursion IsParamInRange (lent (take l.param-index l.params))
