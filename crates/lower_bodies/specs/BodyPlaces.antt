-- Where the parts of a body are written (ECMA-335 II.15.4.1).
use Rattle.std.specs.Prelude.{◌≡◌, MatchOption, true}
use Rattle.source_model.specs.Forest.{Forest}
use Rattle.source_model.specs.Nodes.{Around}
use Rattle.source_model.specs.Source.{Source}
use Rattle.lower_bodies.specs.CodePlaces.{IsCode}
use Rattle.source_syntax.specs.Places.{IsAt}
use Rattle.lower_bodies.specs.NamedVariables.{AreVariables, takes_variables}
use Rattle.lower_bodies.specs.declared.body_places.BodyPlace.{BodyPlace}

-- the place is within this method, which is given by what stands below its production, and knows its labels, the first tokens of
-- its instructions, and its arguments and locals where an instruction takes one
pub record IsWithin (x : BodyPlace) (s : Source) (a : Around) (f : Forest) : Type 0 where
  pub at : IsAt x.place s a
  pub code : IsCode x.code s f
  pub variables : takes_variables f ≡ true → MatchOption x.variables ⊥ (λ v. AreVariables v.now s f)
