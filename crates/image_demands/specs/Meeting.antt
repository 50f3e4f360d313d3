-- The demands on rows that an image meets, by all that its tokens name, or the first that it fails (II.22).
use Rattle.std.specs.Prelude.{ℕ, ◌<◌, List, Option, MatchOption}
use Rattle.attribute_demands.specs.Judging.{CanJudge}
use Rattle.body_codec.specs.Names.{NameMap}
use Rattle.image_model.specs.Faults.{RowRule, number_of, Holds, IsImageFault}
use Rattle.image_model.specs.Namings.{AreNamings}
use Rattle.image_model.specs.Structure.{HasScopes}
use Rattle.image_model.specs.declared.place.Place.TheVariants.{Row}
use Rattle.image_streams.specs.declared.opened.Unmet.{Unmet}
use Rattle.owner_numbers.specs.Terms.{TellFacts}
use Rattle.row_demands.specs.Structured.{MeetStructure}
use Rattle.signature_facts.specs.Scanning.{OwnersFacts}

-- the tokens of the image name something, and its rows meet the demands with lower numbers
pub record MeetBelow (image : List ℕ) (number : ℕ) : Type 0 where
  pub named : (names : NameMap) × AreNamings image names
  pub held : (names : NameMap) → AreNamings image names → (rule : RowRule) → number_of rule < number → Holds image names rule

-- its rows meet all of them
pub record MeetDemands (image : List ℕ) : Type 0 where
  pub structure : MeetStructure image
  pub scopes : (table row : ℕ) → HasScopes image table row
  pub named : (names : NameMap) × AreNamings image names
  pub rows : (names : NameMap) → AreNamings image names → (rule : RowRule) → Holds image names rule

-- a demand that a row doesn't meet
abbrev pub unmet_at : ℕ → ℕ × ℕ → Unmet
unmet_at rule row = record { rule = rule; at = Row row.0 row.1 }

-- a demand fails first, or else this holds
abbrev pub FailsOr : List ℕ → Type 0 → Option Unmet → Type 0
FailsOr image Holds unmet = MatchOption unmet Holds (λ u. IsImageFault image u.rule u.at)

-- these are facts of what the tokens of an image name that meets I1 to I14
pub record AreTold (image : List ℕ) (facts : OwnersFacts) : Type 0 where
  pub can : CanJudge image facts
  pub told : TellFacts image facts
