use Rattle.std.proofs.Common.{◌≡◌, map, take}
use Rattle.type_hierarchy.specs.Normal.{normal}
use Rattle.type_hierarchy.specs.Reading.{reading_by}
use Rattle.type_hierarchy.proofs.normal.+normal.Given as goal

abbrev pub invariant-normalised_all-loop-t : goal.invariant-normalised_all-loop-t
invariant-normalised_all-loop-t l = l.all ≡ map (normal (reading_by l.values l.means)) (take l.t-index l.types)
