-- What is known of an image whose data is measured, by what was decided before.
use Rattle.std.proofs.Common.{ℕ, List}
use Rattle.image_model.specs.Members.{AreDistinct}
use Rattle.signature_facts.specs.Scanning.{OwnersFacts}
use Rattle.attribute_demands.specs.Judging.{CanJudge, ByNames}
use Rattle.data_demands.specs.Measured.{CanMeasure}

-- where signatures can be judged, and nothing stands twice
pub by_judging : (image : List ℕ) (facts : OwnersFacts) → CanJudge image facts → ((table row : ℕ) → ByNames image (λ names. AreDistinct image names table row)) → CanMeasure image
by_judging image facts can apart = record {
  meets = can.meets;
  scopes = can.scopes;
  named = can.named;
  signatures = can.signatures;
  distinct = λ names told table row. apart table row names told;
}
