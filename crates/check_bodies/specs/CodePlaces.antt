-- The places of a method's code (ECMA-335 II.5.4, II.15.4.1).
use Rattle.std.specs.Prelude.{◌≡◌, map}
use Rattle.std.specs.List.Sorted.{IsNonDecreasing}
use Rattle.source_model.specs.Forest.{Forest}
use Rattle.source_model.specs.Instructions.{instructions_of, mnemonic_token}
use Rattle.source_model.specs.Source.{Source}
use Rattle.source_syntax.specs.Labels.{AreLabels}
use Rattle.check_bodies.specs.declared.code_places.CodePlaces.{CodePlaces}

-- the tokens at which the instructions of a method begin, which never fall, and its labels
pub record ArePlaces (x : CodePlaces) (s : Source) (f : Forest) : Type 0 where
  pub starts-are : x.starts ≡ map mnemonic_token (instructions_of f)
  pub in-order : IsNonDecreasing x.starts
  pub labels-are : AreLabels x.labels s f
