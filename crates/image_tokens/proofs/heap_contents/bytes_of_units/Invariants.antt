use Rattle.std.proofs.Common.{◌≡◌, take}
use Rattle.image_tokens.specs.Units.{bytes_of_units}
use Rattle.image_tokens.proofs.heap_contents.bytes_of_units.Given as goal

abbrev pub invariant-loop-unit : goal.invariant-loop-unit
invariant-loop-unit l = l.bytes ≡ bytes_of_units (take l.unit-index l.unit-items)
