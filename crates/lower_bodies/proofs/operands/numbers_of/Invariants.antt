use Rattle.std.proofs.Common.{◌≡◌, map, take}
use Rattle.source_model.specs.Forest.{Forest}
use Rattle.source_model.specs.Instructions.{label_number}
use Rattle.source_model.specs.Source.{Source}
use Rattle.lower_bodies.specs.CodePlaces.{IsCode}
use Rattle.source_syntax.specs.Methods.{AreNames}
use Rattle.lower_bodies.proofs.operands.numbers_of.Given as goal

abbrev pub invariant-loop-token : goal.invariant-loop-token
invariant-loop-token l = (s : Source) (f : Forest) → IsCode l.code s f → AreNames s l.tokens → l.numbers ≡ map (label_number s f) (take l.token-index l.tokens)
