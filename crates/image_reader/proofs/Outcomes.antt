-- What an outcome says of an image, where it has one alone.
use Rattle.std.proofs.Common.{◌≡◌, ℕ, ◌≤◌, ◌^◌, Bool, true, List, length, refl}
use Rattle.std.specs.Prelude.{IsTrue, IfOk, IfErr, Result, Ok, Err}
use Rattle.assembly_tree.specs.WellFormed.{is_well_formed}
use Rattle.assembly_tree.specs.declared.assembly.Assembly.{Assembly}
use Rattle.formed_images.specs.Laws.{AreBytes, ReadIsFormed}
use Rattle.image_assemblies.specs.Laws.{HasOneOutcome}
use Rattle.image_demands.specs.Meeting.{MeetDemands}
use Rattle.image_lightness.specs.Light.{TellsLight}
use Rattle.image_model.specs.declared.place.Place.{Place}
use Rattle.image_model.specs.Faults.{HasTables, Reads, IsImageFault}
use Rattle.image_reader.specs.Outcome.{IsFaultOf, IsAnswer, AnswersAssembly, AnswersFault, IsTreeOf}
use Rattle.image_reader.specs.declared.fault.ImageFault.{ImageFault}
use Rattle.image_reader.specs.declared.fault.ImageFault.TheVariants.{Bad, NoMemory}

module _ (image : List ℕ) where
  pub is_read : (r : Result Assembly ImageFault) → IsAnswer image r → IfOk r (Reads image)
  is_read (Ok a) h = h
  is_read (Err fault) h = tt

  pub is_fault : (r : Result Assembly ImageFault) → IsAnswer image r → IfErr r (IsFaultOf image)
  is_fault (Ok a) h = tt
  is_fault (Err fault) h = h

  pub is_formed : AreBytes image → length image ≤ 2 ^ 26 → ReadIsFormed → (r : Result Assembly ImageFault) → IsAnswer image r → IfOk r (λ a. IsTrue (is_well_formed a))
  is_formed bytes small formed (Ok a) h = formed image a bytes small h
  is_formed bytes small formed (Err fault) h = tt

  module _ (one : HasOneOutcome image) where
    pub only_read : (r : Result Assembly ImageFault) → IsAnswer image r → (a : Assembly) → Reads image a → AnswersAssembly a r
    only_read (Ok b) h a k = one.one_assembly b a h k
    only_read (Err (Bad rule at)) h a k = absurd (one.not_both a rule at k h)
    only_read (Err NoMemory) h a k = refl

    pub only_fault : (r : Result Assembly ImageFault) → IsAnswer image r → (rule : ℕ) (at : Place) → IsImageFault image rule at → AnswersFault rule at r
    only_fault (Ok b) h rule at k = absurd (one.not_both b rule at h k)
    only_fault (Err (Bad number place)) h rule at k = one.one_fault number rule place at h k
    only_fault (Err NoMemory) h rule at k = tt

  -- ---- by the weight

  module _ (has : HasTables image) (meets : MeetDemands image) where
    -- what it gives isn't too large, as is told by a test
    pub reads : (a : Assembly) → IsTreeOf image a → (little : Bool) → TellsLight image little → little ≡ true → Reads image a
    reads a tree little tells is_little = record {
      tables = has;
      names = meets.named.0;
      named = meets.named.1;
      rows = meets.rows meets.named.0 meets.named.1;
      parts = tree meets.named.0 meets.named.1;
      weight = (tells meets.named.0 a meets.named.1 (tree meets.named.0 meets.named.1)).0 is_little;
    }
