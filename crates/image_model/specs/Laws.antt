-- Laws of what tokens name.
use Rattle.std.specs.Prelude.{◌≡◌, ℕ, List, Option}
use Rattle.type_terms.specs.declared.term.Owner.{Owner}
use Rattle.image_model.specs.Naming.{TellsOwners}

-- the tokens of an image name one type each
abbrev pub OneOwners : Type 0
OneOwners = (image : List ℕ) (owners others : ℕ → Option Owner) → TellsOwners image owners → TellsOwners image others → owners ≡ others
