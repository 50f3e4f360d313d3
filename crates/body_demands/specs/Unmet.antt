-- The first of the demands on bodies (I17, I18, I19) that an image fails, or that it meets them all (II.25.4).
use Rattle.std.specs.Prelude.{◌≡◌, ℕ, ◌⊎◌, List}
use Rattle.demand_search.specs.Search.{IsFirstBad}
use Rattle.image_model.specs.Bodies.{HasHeader, HasInstructions, HasClauses}
use Rattle.image_model.specs.declared.place.Place.TheVariants.{Row}
use Rattle.image_streams.specs.declared.opened.Unmet.{Unmet}

-- I17 to I19 hold
pub record MeetBodies (image : List ℕ) : Type 0 where
  pub headers : (table row : ℕ) → HasHeader image table row
  pub instructions : (table row : ℕ) → HasInstructions image table row
  pub clauses : (table row : ℕ) → HasClauses image table row

-- each of them is asked where those before it hold
pub record FirstInstruction (image : List ℕ) (table row : ℕ) : Type 0 where
  pub headers : (t r : ℕ) → HasHeader image t r
  pub first : IsFirstBad (HasInstructions image) table row

pub record FirstClause (image : List ℕ) (table row : ℕ) : Type 0 where
  pub headers : (t r : ℕ) → HasHeader image t r
  pub instructions : (t r : ℕ) → HasInstructions image t r
  pub first : IsFirstBad (HasClauses image) table row

abbrev pub IsFirstOf : List ℕ → (rule table row : ℕ) → Type 0
IsFirstOf image rule table row =
    ((rule ≡ 17) × IsFirstBad (HasHeader image) table row) ⊎ ((rule ≡ 18) × FirstInstruction image table row) ⊎ ((rule ≡ 19) × FirstClause image table row)

abbrev pub IsFirstUnmet : List ℕ → Unmet → Type 0
IsFirstUnmet image unmet = (table row : ℕ) × (unmet.at ≡ Row table row) × IsFirstOf image unmet.rule table row
